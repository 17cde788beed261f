use Rattle.std.proofs.Common.{◌+◌, ◌≤◌, Bool, ap₂, ◌∙◌, sym, subst, arith}
use Rattle.std.proofs.lemmas.List.{get_or_default}
use Rattle.touch_state.specs.declared.row.Row.{Row}
use Rattle.touch_state.specs.Rows.{no_row, sooner, IsLeastSince}
use Rattle.touch_state.proofs.Least.{least_none, least_more, least_whole}
use Rattle.touch_state.proofs.row.least_since.Goals as goal

pub loop-k-init : goal.loop-k-init
loop-k-init c = least_none c.args.rows.now c.args.hits

pub loop-k-preserved : goal.loop-k-preserved
loop-k-preserved c =
    let same =
    c.sooner-least.ensures
    ∙ ap₂ (λ (b : Bool) (r : Row). sooner b r.since c.loop-k.least) c.mask_has.ensures
    (get_or_default c.args.rows.now c.loop-k.k c.index-rows-k.result no_row (omega arith)) in
    subst (IsLeastSince c.args.rows.now c.args.hits (c.loop-k.k + 1)) (sym same)
    (least_more c.args.rows.now c.args.hits c.loop-k.k c.loop-k.least (omega (arith, c.loop-k-test.true, c.top_of-top.ensures.few)) c.loop-k.invariant)

pub returns : goal.returns
returns c =
    let end : c.loop-k.k ≤ c.top_of-top.result = c.loop-k.auto.k-end in
    least_whole c.args.rows.now c.args.hits c.loop-k.k c.loop-k.least (omega (arith, end, c.top_of-top.ensures.few))
    (λ w up. c.top_of-top.ensures.above w (omega (arith, up, c.loop-k-test.false)))
    c.loop-k.invariant
