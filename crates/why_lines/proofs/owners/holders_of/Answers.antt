use Rattle.std.proofs.Common.{◌≡◌, ◌&&◌, ◌||◌, Bool, ℕ, sym, ap, ◌∙◌, add-one, arith}
use Rattle.bits32.specs.Set.{is_in}
use Rattle.window_snapshot.proofs.Masks.{mask_has-zero}
use Rattle.route_split.specs.Tables.{holds_at}
use Rattle.why_lines.proofs.Pilfering.{some_below, some_in, some_more}
use Rattle.why_lines.proofs.owners.holders_of.Goals as goal

pub loop-id-init : goal.loop-id-init
loop-id-init c w = mask_has-zero w

pub loop-id-preserved : goal.loop-id-preserved
loop-id-preserved c w =
    let p : ℕ → Bool = λ i. holds_at c.args.touches.now w c.args.device i in
    c.with_holders-mask.ensures w
    ∙ ap (λ b. b || (is_in c.loop-id.id c.args.ids && p c.loop-id.id)) (c.loop-id.invariant w)
    ∙ sym (some_more p c.args.ids c.loop-id.id)
    ∙ ap (some_below p c.args.ids) (sym (add-one c.loop-id.id))

pub returns : goal.returns
returns c w =
    let p : ℕ → Bool = λ i. holds_at c.args.touches.now w c.args.device i in
    let all : c.loop-id.id ≡ 32 = omega (arith, c.loop-id-test.false, c.loop-id.auto.id-end) in
    c.loop-id.invariant w
    ∙ ap (some_below p c.args.ids) all
    ∙ some_in p c.args.ids
