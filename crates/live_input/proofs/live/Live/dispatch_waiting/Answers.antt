-- What waits is dispatched, one call after another.
use Rattle.std.proofs.lemmas.Bool.{true≢false}
use Rattle.std.proofs.Common.{◌≤◌, ◌<◌, ◌^◌, ◌-◌, arith, cond, length, Some, None, refl, sym, ap, ◌∙◌, subst}
use Rattle.dispatch_calls.specs.declared.call.Call.TheVariants.{Pump}
use Rattle.dispatch_history.specs.Legal.{answered}
use Rattle.dispatch_history.specs.Ordered.{extend}
use Rattle.dispatcher.proofs.Laws.Standing.{after_of}
use Rattle.live_input.specs.Room.{PumpsOver}
use Rattle.live_input.proofs.Roomy.{busy, counted, long, one_less, pumps_over_more}
use Rattle.live_input.specs.Settling.{next_waiting}
use Rattle.live_input.specs.Standing.{LiveIs}
use Rattle.live_input.specs.State.{LiveState}
use Rattle.live_input.proofs.Following.{reaches_more}
use Rattle.live_input.proofs.live.Live.dispatch_waiting.Goals as goal

pub loop-made-preserved : goal.loop-made-preserved
loop-made-preserved c =
    let rest = c.pump.ensures.rest in
    record {
      reaches = λ ds es h.
          let r = c.loop-made.invariant.reaches ds es h in
          let fs = extend ds es r.calls in
          let there = subst (LiveIs ds fs) (sym c.self.view_is) r.is in
          let some = sym (c.is_waiting.ensures fs (after_of fs _ there.stands)) ∙ c.if-not-is_waiting.false in
          reaches_more ds (next_waiting c.args.now) es _ c.pump.new.self (Pump c.args.now) r (ap (λ b. cond b (Some (Pump c.args.now)) None) some)
          (c.in_ok-pump.ensures.after ds fs r.is);
      room = λ ds es h.
          let r = c.loop-made.invariant.reaches ds es h in
          let fs = extend ds es r.calls in
          let there = subst (LiveIs ds fs) (sym c.self.view_is) r.is in
          let some = sym (c.is_waiting.ensures fs (after_of fs _ there.stands)) ∙ c.if-not-is_waiting.false in
          pumps_over_more ds c.args.now fs c.args.self.now c.loop-made.self c.pump.new.self r.is (c.in_ok-pump.ensures.after ds fs r.is) some
          c.in_ok-pump.ensures.room c.pump.ensures.pumps (c.loop-made.invariant.room ds es h);
      steps = λ ds es h.
          let r = c.loop-made.invariant.reaches ds es h in
          let fs = extend ds es r.calls in
          let there = subst (LiveIs ds fs) (sym c.self.view_is) r.is in
          let some = sym (c.is_waiting.ensures fs (after_of fs _ there.stands)) ∙ c.if-not-is_waiting.false in
          let more = c.in_ok-pump.ensures.after ds fs r.is in
          let w = long ds fs c.loop-made.self r.is in
          let v = long ds (answered ds (Pump c.args.now) fs) c.pump.new.self more in
          let less = one_less ds c.args.now fs some in
          let before = c.loop-made.invariant.steps ds es h in
          omega (arith, w, v, less, before);
      rest =
          record {
            seats_are = ap (λ (s : LiveState). s.seats) rest ∙ c.loop-made.invariant.rest.seats_are;
            opened_is = ap (λ (s : LiveState). s.opened) rest ∙ c.loop-made.invariant.rest.opened_is;
            terms_are = ap (λ (s : LiveState). s.terms) rest ∙ c.loop-made.invariant.rest.terms_are;
            devices_are = ap (λ (s : LiveState). s.devices) rest ∙ c.loop-made.invariant.rest.devices_are;
            pending_is = ap (λ (s : LiveState). s.pending) rest ∙ c.loop-made.invariant.rest.pending_is;
            fingers_are = ap (λ (s : LiveState). s.fingers) rest ∙ c.loop-made.invariant.rest.fingers_are;
            reported_is = ap (λ (s : LiveState). s.reported) rest ∙ c.loop-made.invariant.rest.reported_is;
            clock_is = ap (λ (s : LiveState). s.clock) rest ∙ c.loop-made.invariant.rest.clock_is;
          };
    }

pub returns-then-not-is_waiting-clause-done : goal.returns-then-not-is_waiting-clause-done
returns-then-not-is_waiting-clause-done c = λ ds es h.
    let r = c.loop-made.invariant.reaches ds es h in
    let fs = extend ds es r.calls in
    let there = subst (LiveIs ds fs) (sym c.self.view_is) r.is in
    let none = sym (c.is_waiting.ensures fs (after_of fs _ there.stands)) ∙ c.if-not-is_waiting.true in
    record { reached = r; done = ap (λ b. cond b (Some (Pump c.args.now)) None) none }

pub returns-then-not-is_waiting-clause-room : goal.returns-then-not-is_waiting-clause-room
returns-then-not-is_waiting-clause-room c = c.loop-made.invariant.room

pub returns-in_err-pump-clause-room : goal.returns-in_err-pump-clause-room
returns-in_err-pump-clause-room c = λ ds es h.
    subst (PumpsOver c.args.self.now) (sym c.in_err-pump.ensures.err) (c.loop-made.invariant.room ds es h)

pub returns-in_err-pump-clause-reserved : goal.returns-in_err-pump-clause-reserved
returns-in_err-pump-clause-reserved c = λ ds es h enough few.
    let r = c.loop-made.invariant.reaches ds es h in
    let fs = extend ds es r.calls in
    let there = subst (LiveIs ds fs) (sym c.self.view_is) r.is in
    let waits = sym (c.is_waiting.ensures fs (after_of fs _ there.stands)) ∙ c.if-not-is_waiting.false in
    let some = busy ds fs c.loop-made.self r.is waits in
    let x = c.loop-made.invariant.room ds es h in
    let first = counted ds es c.args.self.now h in
    let now = counted ds fs c.loop-made.self r.is in
    let place = x.place_is in let pumps = x.pumps_are in
    let may : length fs < 2 ^ 64 - 1 = omega (arith, some, first, now, place, few) in
    let one : 1 ≤ c.loop-made.self.dispatcher.queue.pumps = omega (arith, some, pumps, enough) in
    absurd (true≢false (sym (c.in_err-pump.ensures.pumped fs (after_of fs _ r.is.stands) may refl one)))

pub returns-clause-room : goal.returns-clause-room
returns-clause-room c = c.loop-made.invariant.room

pub returns-clause-reserved : goal.returns-clause-reserved
returns-clause-reserved c = λ ds es h enough few.
    let steps = c.loop-made.invariant.steps ds es h in absurd (omega (arith, c.loop-made-test.false, steps, few))
