-- The least ids that are not held are settled in rising order.
use Rattle.std.specs.Prelude.{◌≡◌, ℕ, false, true}
use Rattle.std.proofs.Common.{sym, ◌∙◌, refl, arith}
use Rattle.bits32.specs.Set.{is_in}
use Rattle.touch_writer.specs.Places.{is_held}
use Rattle.touch_writer.specs.Refusal.{is_assignable}
use Rattle.touch_writer.proofs.Ids.{free_settled, free_counted, held_counted, held_settled, spent_settled, free_more, settled_next, marked_other, marked_here}
use Rattle.touch_writer.proofs.assignable.assignable.Goals.{then-left-gt0+then-not-has, else-left-gt0, else-left-gt0-via-then-left-gt0+else-not-has, else-left-gt0-via-else-left-gt0}
use Rattle.touch_writer.proofs.assignable.assignable.Goals as goal

pub loop-id-init : goal.loop-id-init
loop-id-init c = record {
  left = omega arith;
  settled = λ i lt. absurd (omega (arith, lt));
  ahead = λ i _. c.held-ids.ensures i;
}

pub loop-id-preserved : goal.loop-id-preserved
loop-id-preserved c =
    let id : ℕ = c.loop-id.id in
    let here : is_in id c.loop-id.ids ≡ is_held id c.args.places.now = c.loop-id.invariant.ahead id (omega arith) in
    elim c.if-left-gt0.branch [
      | then-left-gt0+then-not-has w ↦
          let free : is_held id c.args.places.now ≡ false = sym here ∙ sym w.has.ensures ∙ w.if-not-has.true in
          rw (w.ids-is, w.left-is) (record {
            left = omega (arith, c.loop-id.invariant.left, free_counted c.args.places.now id free);
            settled = settled_next (λ i. is_in i w.mark.new.self) (λ i. is_assignable c.args.places.now c.args.count i) id
                (λ i lt. marked_other i id c.loop-id.ids w.mark.new.self (λ e. omega (arith, lt, e)) (w.mark.ensures.has i) ∙ c.loop-id.invariant.settled i lt)
                (marked_here id c.loop-id.ids w.mark.new.self (w.mark.ensures.has id) ∙ sym (free_settled c.args.places.now c.args.count id c.loop-id.left c.loop-id.invariant.left w.if-left-gt0.true free));
            ahead = λ i le. marked_other i id c.loop-id.ids w.mark.new.self (λ e. omega (arith, le, e)) (w.mark.ensures.has i) ∙ c.loop-id.invariant.ahead i (omega (arith, le));
          })
      | else-left-gt0 w ↦ elim w.else-left-gt0.branch [
        | else-left-gt0-via-then-left-gt0+else-not-has v ↦
            let taken : is_held id c.args.places.now ≡ true = sym here ∙ sym v.has.ensures ∙ v.if-not-has.false in
            rw (w.ids-is, w.left-is) (record {
              left = omega (arith, c.loop-id.invariant.left, held_counted c.args.places.now id taken);
              settled = settled_next (λ i. is_in i c.loop-id.ids) (λ i. is_assignable c.args.places.now c.args.count i) id c.loop-id.invariant.settled
                  (here ∙ taken ∙ sym (held_settled c.args.places.now c.args.count id taken));
              ahead = λ i le. c.loop-id.invariant.ahead i (omega (arith, le));
            })
        | else-left-gt0-via-else-left-gt0 v ↦
            let none : c.loop-id.left ≡ 0 = omega arith in
            rw (w.ids-is, w.left-is) (record {
              left = omega (arith, none, c.loop-id.invariant.left, free_more c.args.places.now id (is_held id c.args.places.now) refl);
              settled = settled_next (λ i. is_in i c.loop-id.ids) (λ i. is_assignable c.args.places.now c.args.count i) id c.loop-id.invariant.settled
                  (here ∙ sym (spent_settled c.args.places.now c.args.count id c.loop-id.left c.loop-id.invariant.left none));
              ahead = λ i le. c.loop-id.invariant.ahead i (omega (arith, le));
            })
      ]
    ]
