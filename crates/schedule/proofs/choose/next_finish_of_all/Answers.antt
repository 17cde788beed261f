-- One channel less, and none.
use Rattle.std.proofs.Common.{◌≡◌, ◌∙◌, ◌==◌, not, None, sym, ap, subst, map, arith}
use Rattle.std.specs.Prelude.{option_map}
use Rattle.std.proofs.lemmas.Bool.{and_parts}
use Rattle.window_snapshot.specs.Mask.{mask_has}
use Rattle.window_snapshot.proofs.Masks.{mask_has-zero}
use Rattle.dispatch_history.specs.Effect.{past_of}
use Rattle.dispatch_history.specs.History.{clock}
use Rattle.schedule.specs.Choosing.{NotBefore}
use Rattle.schedule.specs.DueView.{candidate_of}
use Rattle.schedule.specs.Planned.{channel_of}
use Rattle.schedule.proofs.Masked.{finishes_in, due_by_now, fewer, enough, found_due_by, none_left, one_looked_at}
use Rattle.schedule.proofs.choose.next_finish_of_all.Goals as goal

pub loop-rest-init : goal.loop-rest-init
loop-rest-init c =
    record {
      live = λ es s k has. c.unfinished-rest.ensures.live es s k has;
      best = λ es s. enough es c.unfinished-rest.result 1 (map channel_of c.args.channels.now) None (c.unfinished-rest.ensures.none es s);
    }

pub loop-rest-smaller : goal.loop-rest-smaller
loop-rest-smaller c =
    fewer c.loop-rest.rest _ c.mask_without-rest.result c.mask_first-number.result c.mask_first-number.ensures.has c.mask_without-rest.ensures.value
    c.mask_without-rest.ensures.channels

pub loop-rest-preserved : goal.loop-rest-preserved
loop-rest-preserved c =
    record {
      live = λ es s k has.
          let rest = sym (c.mask_without-rest.ensures.channels k) ∙ has in
          c.loop-rest.invariant.live es s k (and_parts (not (k == c.mask_first-number.result)) (mask_has c.loop-rest.rest k) rest).1;
      best = λ es s.
          one_looked_at es c.loop-rest.rest c.mask_without-rest.result c.args.channels.now c.mask_first-number.result c.loop-rest.best c.finish_among-finish.result.0
          c.mask_first-number.ensures.range.0 c.mask_first-number.ensures.has c.mask_first-number.ensures.first c.mask_without-rest.ensures.channels
          (c.finish_among-finish.ensures.finish es s (c.loop-rest.invariant.live es s c.mask_first-number.result c.mask_first-number.ensures.has))
          c.sooner-best.result c.sooner-best.ensures
          ∙ c.loop-rest.invariant.best es s;
    }

pub returns-then-at_once : goal.returns-then-at_once
returns-then-at_once c = λ es s overdue.
    let there = c.loop-rest.invariant.live es s c.mask_first-number.result c.mask_first-number.ensures.has in
    let found = c.finish_among-finish.result.0 in
    let same =
    one_looked_at es c.loop-rest.rest c.mask_without-rest.result c.args.channels.now c.mask_first-number.result c.loop-rest.best found
    c.mask_first-number.ensures.range.0 c.mask_first-number.ensures.has c.mask_first-number.ensures.first c.mask_without-rest.ensures.channels
    (c.finish_among-finish.ensures.finish es s there) c.sooner-best.result c.sooner-best.ensures
    ∙ c.loop-rest.invariant.best es s in
    let due =
    found_due_by c.loop-rest.best found c.sooner-best.result (clock (past_of es)) c.sooner-best.ensures
    (c.finish_among-finish.ensures.at_once es s there c.if-at_once.true) in
    sym
    (due_by_now es c.mask_without-rest.result 1 (map channel_of c.args.channels.now) (option_map candidate_of c.sooner-best.result) (clock (past_of es)) due
    (subst (NotBefore (clock (past_of es))) (sym same) overdue))
    ∙ same

pub returns : goal.returns
returns c = λ es s overdue.
    let none : c.loop-rest.rest ≡ 0 = omega (arith, c.loop-rest-test.false) in
    sym (none_left es 1 (map channel_of c.args.channels.now) (option_map candidate_of c.loop-rest.best) mask_has-zero)
    ∙ ap (λ m. finishes_in es m 1 (map channel_of c.args.channels.now) (option_map candidate_of c.loop-rest.best)) (sym none)
    ∙ c.loop-rest.invariant.best es s
