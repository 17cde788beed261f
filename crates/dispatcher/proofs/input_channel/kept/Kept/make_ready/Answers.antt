use Rattle.std.proofs.Common.{◌≡◌, max, ap, ◌∙◌, arith}
use Rattle.dispatcher.specs.InputChannel.Kept.{KeptState}
use Rattle.dispatcher.proofs.input_channel.kept.Kept.make_ready.Goals as goal

pub returns-clause-ok : goal.returns-clause-ok
returns-clause-ok c =
    let spare : c.self-2.inside.spare ≡ max c.args.n c.args.self.now.spare = ap (λ (k : KeptState). k.spare) (c.self-2.view_is ∙ c.in_ok-reserve.ensures.ok) in
    let room = c.self-2.invariant.room in
    let numbers = c.self-2.invariant.numbers in
    let half = c.self-2.invariant.half in
    c.least_of-self-inside.ensures.greatest c.args.n c.ranges.n.fits (omega (arith, spare, room, c.capacity.ensures, c.len-2.ensures))
    (omega (arith, spare, numbers, half, c.len.ensures))

pub returns-clause-more : goal.returns-clause-more
returns-clause-more c =
    let spare : c.self-2.inside.spare ≡ max c.args.n c.args.self.now.spare = ap (λ (k : KeptState). k.spare) (c.self-2.view_is ∙ c.in_ok-reserve.ensures.ok) in
    let room = c.self-2.invariant.room in
    let numbers = c.self-2.invariant.numbers in
    let half = c.self-2.invariant.half in
    let was : c.self.inside.spare ≡ c.args.self.now.spare = ap (λ (k : KeptState). k.spare) c.self.view_is in
    c.least_of-self-inside.ensures.greatest c.args.self.now.spare (omega (arith, was, c.if-n-self.false, c.ranges.n.fits)) (omega (arith, spare, room, c.capacity.ensures, c.len-2.ensures))
    (omega (arith, spare, numbers, half, c.len.ensures))
