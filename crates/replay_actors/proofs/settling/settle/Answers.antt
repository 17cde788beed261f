use Rattle.std.proofs.Common.{◌≡◌, ◌+◌, subst, arith}
use Rattle.window_snapshot.specs.Mask.{mask_has}
use Rattle.replay_actors.specs.Came.{Came}
use Rattle.replay_actors.specs.Settling.{receives_from}
use Rattle.replay_actors.proofs.Emptied.{nothing_left}
use Rattle.replay_actors.proofs.settling.settle.Goals as goal

pub returns-clause-settled : goal.returns-clause-settled
returns-clause-settled c = λ quiet few.
    let f = mask_has c.args.finishing in
    let end : c.loop-place.place ≡ c.args.channels = omega (arith, c.loop-place-test.false, c.loop-place.auto.place-end) in
    let came : Came f c.args.core.now (receives_from (c.args.channels + 1)) c.loop-place.core =
    subst (λ n. Came f c.args.core.now (receives_from (n + 1)) c.loop-place.core) end c.loop-place.invariant.0 in
    nothing_left f c.args.channels c.args.core.now c.loop-place.core came c.loop-place.invariant.1 quiet few
