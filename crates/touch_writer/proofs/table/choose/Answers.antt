-- The rows are filled from the last slot to the first.
use Rattle.std.specs.Prelude.{◌≡◌, true, false, not, drop, is_some}
use Rattle.std.proofs.Common.{sym, ◌∙◌, ap, arith, length-drop}
use Rattle.touch_writer.specs.Places.{kept}
use Rattle.touch_writer.proofs.Entries.{row_small, row_before, free_few, free_before}
use Rattle.touch_writer.proofs.table.choose.Goals as goal

pub row-rest-requires-clause-small : goal.row-rest-requires-clause-small
row-rest-requires-clause-small c = λ k _.
    row_small c.loop-slot.rest c.args.case.now.want.now c.args.case.now.current c.loop-slot.slot (drop c.loop-slot.slot c.args.places.now) c.args.case.now.news.now c.args.case.now.next
    c.loop-slot.invariant.row c.loop-slot.invariant.blanks
    (omega (arith, length-drop c.loop-slot.slot c.args.places.now, c.loop-slot-test.true, c.requires.slots)) k

pub overflow_add-free : goal.overflow_add-free
overflow_add-free c =
    omega (
      arith,
      c.loop-slot.invariant.free,
      free_few c.args.case.now.want.now (drop c.loop-slot.slot c.args.places.now),
      length-drop c.loop-slot.slot c.args.places.now,
      c.requires.slots,
    )

pub loop-slot-preserved-then-is_none : goal.loop-slot-preserved-then-is_none
loop-slot-preserved-then-is_none c =
    let k : is_some (kept c.args.case.now.want.now c.index-places-slot.result) ≡ false
    = sym (ap (λ o. is_some o) c.kept.ensures) ∙ c.is_none.ensures ∙ ap (λ b. not b) c.if-is_none.true in
    record {
      row = row_before c.loop-slot.rest c.row-rest.result c.args.case.now.want.now c.args.case.now.current c.loop-slot.slot c.args.places.now c.args.case.now.news.now c.args.case.now.next
          c.index-places-slot.result c.loop-slot-test.true c.loop-slot.invariant.within c.index-places-slot.is c.loop-slot.invariant.row
          (λ is. c.row-rest.ensures.best (drop c.loop-slot.slot c.args.places.now) c.loop-slot.invariant.free is);
      free = omega (
        arith,
        free_before c.args.case.now.want.now c.args.places.now c.loop-slot.slot c.index-places-slot.result c.loop-slot.free false c.loop-slot-test.true
            c.loop-slot.invariant.within c.index-places-slot.is k c.loop-slot.invariant.free,
      );
      blanks = c.row-rest.ensures.others;
      within = omega (arith, c.loop-slot.invariant.within);
    }

pub loop-slot-preserved : goal.loop-slot-preserved
loop-slot-preserved c =
    let k : is_some (kept c.args.case.now.want.now c.index-places-slot.result) ≡ true
    = sym (ap (λ o. is_some o) c.kept.ensures) ∙ c.is_none.ensures ∙ ap (λ b. not b) c.if-is_none.false in
    record {
      row = row_before c.loop-slot.rest c.row-rest.result c.args.case.now.want.now c.args.case.now.current c.loop-slot.slot c.args.places.now c.args.case.now.news.now c.args.case.now.next
          c.index-places-slot.result c.loop-slot-test.true c.loop-slot.invariant.within c.index-places-slot.is c.loop-slot.invariant.row
          (λ is. c.row-rest.ensures.best (drop c.loop-slot.slot c.args.places.now) c.loop-slot.invariant.free is);
      free = omega (
        arith,
        free_before c.args.case.now.want.now c.args.places.now c.loop-slot.slot c.index-places-slot.result c.loop-slot.free true c.loop-slot-test.true
            c.loop-slot.invariant.within c.index-places-slot.is k c.loop-slot.invariant.free,
      );
      blanks = c.row-rest.ensures.others;
      within = omega (arith, c.loop-slot.invariant.within);
    }
