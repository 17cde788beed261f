-- What must still be handed in is, one after another.
use Rattle.std.proofs.lemmas.Bool.{true≢false}
use Rattle.std.proofs.Common.{◌≡◌, ◌+◌, ◌≤◌, ◌<◌, ◌^◌, ◌-◌, arith, length, drop, slice_get, Some, refl, sym, ap, ◌∙◌, subst}
use Rattle.dispatcher.proofs.Laws.Standing.{after_of}
use Rattle.live_input.proofs.Roomy.{counted, hands_over_more}
use Rattle.live_input.specs.Giving.{HandedInPart}
use Rattle.live_input.specs.Room.{HandsOver}
use Rattle.live_input.specs.Standing.{LiveIs}
use Rattle.live_input.specs.State.{LiveState}
use Rattle.live_input.proofs.Handing.{HandsIn, beside_goes, got_first, got_none, hands_all, hands_more, hands_part}
use Rattle.live_input.proofs.Results.{err_always}
use Rattle.live_input.proofs.live.Live.hand_in.Goals as goal

pub loop-made-preserved : goal.loop-made-preserved
loop-made-preserved c =
    let kept = ap (λ (s : LiveState). s.pending) c.self.view_is in
    let was : slice_get c.loop-made.self.pending 0 ≡ Some c.in-Some.next =
    sym (ap (λ xs. slice_get xs 0) (c.deref.ensures.value ∙ kept)) ∙ sym c.first_of.ensures ∙ c.in-Some.is in
    record {
      hands = λ ds es h.
          let x = c.loop-made.invariant.hands ds es h in
          let there = c.in_ok-is_taken.ensures.after ds x.so_far x.is in
          subst (HandsIn ds c.args.now es c.args.self.now.pending _) (sym c.still_fits-fits.ensures)
          (hands_more ds c.args.now es c.args.self.now.pending c.loop-made.self _ c.loop-made.fits c.in_ok-is_taken.is_taken c.in-Some.next
          (drop 1 c.loop-made.self.pending) x (got_first c.loop-made.self.pending c.in-Some.next was)
          (c.drop_first.ensures ∙ ap (drop 1) (ap (λ (s : LiveState). s.pending) c.self-in-loop-made.view_is ∙ c.notify.ensures.rest.pending_is))
          (beside_goes ds _ _ (subst (LiveIs ds _) (sym c.self-in-loop-made.view_is) there) c.self-in-loop-made.inside.devices c.drop_first.new.args.items c.self-in-loop-made.inside.clock)
          (c.in_ok-is_taken.ensures.taken ds x.so_far x.is));
      room = λ ds es h.
          let x = c.loop-made.invariant.hands ds es h in
          let there = c.in_ok-is_taken.ensures.after ds x.so_far x.is in
          hands_over_more ds c.args.now x.so_far c.in-Some.next (drop 1 c.loop-made.self.pending) c.args.self.now c.loop-made.self _ x.is
          (beside_goes ds _ _ (subst (LiveIs ds _) (sym c.self-in-loop-made.view_is) there) c.self-in-loop-made.inside.devices c.drop_first.new.args.items c.self-in-loop-made.inside.clock)
          (got_first c.loop-made.self.pending c.in-Some.next was)
          (c.drop_first.ensures ∙ ap (drop 1) (ap (λ (s : LiveState). s.pending) c.self-in-loop-made.view_is ∙ c.notify.ensures.rest.pending_is))
          (subst (λ (s : LiveState). c.loop-made.self.dispatcher.queue.spare ≤ s.dispatcher.queue.spare + 1) (sym c.self-in-loop-made.view_is)
          c.in_ok-is_taken.ensures.room)
          (ap (λ (s : LiveState). s.dispatcher.queue.pumps) c.self-in-loop-made.view_is ∙ c.in_ok-is_taken.ensures.pumps)
          (c.loop-made.invariant.room ds es h);
      steps =
          let p = ap length (got_first c.loop-made.self.pending c.in-Some.next was) in
          let q =
          ap length (c.drop_first.ensures ∙ ap (drop 1) (ap (λ (s : LiveState). s.pending) c.self-in-loop-made.view_is ∙ c.notify.ensures.rest.pending_is)) in
          let before = c.loop-made.invariant.steps in
          omega (arith, p, q, before);
      devices = ap (λ (s : LiveState). s.devices) c.self-in-loop-made.view_is ∙ c.notify.ensures.rest.devices_are ∙ c.loop-made.invariant.devices;
      seats =
          record {
            seats_are = ap (λ (s : LiveState). s.seats) c.self-in-loop-made.view_is ∙ c.notify.ensures.rest.seats_are ∙ c.loop-made.invariant.seats.seats_are;
            opened_is = ap (λ (s : LiveState). s.opened) c.self-in-loop-made.view_is ∙ c.notify.ensures.rest.opened_is ∙ c.loop-made.invariant.seats.opened_is;
            fingers_are = ap (λ (s : LiveState). s.fingers) c.self-in-loop-made.view_is ∙ c.notify.ensures.rest.fingers_are ∙ c.loop-made.invariant.seats.fingers_are;
            terms_are = ap (λ (s : LiveState). s.terms) c.self-in-loop-made.view_is ∙ c.notify.ensures.rest.terms_are ∙ c.loop-made.invariant.seats.terms_are;
          };
      named = ap (λ (s : LiveState). s.reported) c.self-in-loop-made.view_is ∙ c.notify.ensures.rest.reported_is ∙ c.loop-made.invariant.named;
      clock = ap (λ (s : LiveState). s.clock) c.self-in-loop-made.view_is ∙ c.notify.ensures.rest.clock_is ∙ c.loop-made.invariant.clock;
    }

pub returns-in_default-clause-after : goal.returns-in_default-clause-after
returns-in_default-clause-after c = λ ds es h.
    let kept = ap (λ (s : LiveState). s.pending) c.self.view_is in
    let none = got_none c.loop-made.self.pending (sym (ap (λ xs. slice_get xs 0) (c.deref.ensures.value ∙ kept)) ∙ sym c.first_of.ensures ∙ c.in_default.is) in
    (hands_all ds c.args.now es c.args.self.now.pending c.loop-made.self c.loop-made.fits (c.loop-made.invariant.hands ds es h) none).0

pub returns-in_default-clause-fits : goal.returns-in_default-clause-fits
returns-in_default-clause-fits c = λ ds es h.
    let kept = ap (λ (s : LiveState). s.pending) c.self.view_is in
    let none = got_none c.loop-made.self.pending (sym (ap (λ xs. slice_get xs 0) (c.deref.ensures.value ∙ kept)) ∙ sym c.first_of.ensures ∙ c.in_default.is) in
    (hands_all ds c.args.now es c.args.self.now.pending c.loop-made.self c.loop-made.fits (c.loop-made.invariant.hands ds es h) none).1

pub returns-in_default-clause-none : goal.returns-in_default-clause-none
returns-in_default-clause-none c =
    let kept = ap (λ (s : LiveState). s.pending) c.self.view_is in
    got_none c.loop-made.self.pending (sym (ap (λ xs. slice_get xs 0) (c.deref.ensures.value ∙ kept)) ∙ sym c.first_of.ensures ∙ c.in_default.is)

pub returns-in_err-is_taken-clause-part : goal.returns-in_err-is_taken-clause-part
returns-in_err-is_taken-clause-part c = λ ds es h.
    err_always c.from_residual.result _
    (subst (HandedInPart ds c.args.now es c.args.self.now.pending) (sym c.in_err-is_taken.ensures.err)
    (hands_part ds c.args.now es c.args.self.now.pending c.loop-made.self c.loop-made.fits (c.loop-made.invariant.hands ds es h)))

pub returns-clause-part : goal.returns-clause-part
returns-clause-part c = λ ds es h.
    hands_part ds c.args.now es c.args.self.now.pending c.loop-made.self c.loop-made.fits (c.loop-made.invariant.hands ds es h)

pub returns-in_err-is_taken-clause-room : goal.returns-in_err-is_taken-clause-room
returns-in_err-is_taken-clause-room c = λ ds es h.
    subst (HandsOver c.args.self.now) (sym c.in_err-is_taken.ensures.err) (c.loop-made.invariant.room ds es h)

pub returns-in_err-is_taken-clause-reserved : goal.returns-in_err-is_taken-clause-reserved
returns-in_err-is_taken-clause-reserved c = λ ds es h enough few.
    let kept = ap (λ (s : LiveState). s.pending) c.self.view_is in
    let was : slice_get c.loop-made.self.pending 0 ≡ Some c.in-Some.next =
    sym (ap (λ xs. slice_get xs 0) (c.deref.ensures.value ∙ kept)) ∙ sym c.first_of.ensures ∙ c.in-Some.is in
    let p = ap length (got_first c.loop-made.self.pending c.in-Some.next was) in
    let x = c.loop-made.invariant.hands ds es h in
    let r = c.loop-made.invariant.room ds es h in
    let first = counted ds es c.args.self.now h in
    let now = counted ds x.so_far c.loop-made.self x.is in
    let place = r.place_is in let spare = r.spare_is in
    let may : length x.so_far < 2 ^ 64 - 1 = omega (arith, p, first, now, place, few) in
    let one : 1 ≤ c.loop-made.self.dispatcher.queue.spare = omega (arith, p, spare, enough) in
    absurd (true≢false (sym (c.in_err-is_taken.ensures.reserved x.so_far (after_of x.so_far _ x.is.stands) may refl one)))

pub returns-clause-room : goal.returns-clause-room
returns-clause-room c = c.loop-made.invariant.room

pub returns-clause-reserved : goal.returns-clause-reserved
returns-clause-reserved c = λ ds es h enough few.
    let steps = c.loop-made.invariant.steps in absurd (omega (arith, c.loop-made-test.false, steps, few))

pub returns-in_default-clause-room : goal.returns-in_default-clause-room
returns-in_default-clause-room c = c.loop-made.invariant.room
