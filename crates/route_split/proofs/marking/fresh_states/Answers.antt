use Rattle.std.proofs.Common.{◌+◌, ◌≤◌, [], ◌∷◌, length, ◌∙◌, ap, sym, subst, arith, length-append}
use Rattle.route_split.proofs.Changing.{AllFresh, none_fresh, one_fresh, tables_fresh, fresh_tables}
use Rattle.route_split.proofs.marking.fresh_states.Goals as goal

pub loop-number-init : goal.loop-number-init
loop-number-init c = let e = c.in_ok-states.ensures.items in (ap length e, subst AllFresh (sym e) none_fresh)

pub loop-number-preserved : goal.loop-number-preserved
loop-number-preserved c =
    let e = c.in_ok-push-in-Some.ensures.items in (
      ap length e ∙ length-append c.loop-number.states.items (c.new-in-Some.result ∷ []) ∙ ap (λ n. n + 1) c.loop-number.invariant.0,
      subst AllFresh (sym e) (one_fresh c.loop-number.states.items c.new-in-Some.result c.loop-number.invariant.1
          (record { held_is = c.new-in-Some.ensures.held; since_is = c.new-in-Some.ensures.since; pilfering_is = c.new-in-Some.ensures.pilfering })),
    )

pub returns-clause-tables : goal.returns-clause-tables
returns-clause-tables c =
    fresh_tables c.loop-number.states.items c.loop-number.invariant.1
    (let le : c.loop-number.number ≤ 8 = c.loop-number.auto.number-end in omega (arith, c.loop-number.invariant.0, le, c.loop-number-test.false))

pub returns-clause-fresh : goal.returns-clause-fresh
returns-clause-fresh c = tables_fresh c.loop-number.states.items c.loop-number.invariant.1
