-- Everything due is done, one call after another.
use Rattle.std.proofs.Common.{arith, refl, sym, ap, ◌∙◌, subst}
use Rattle.dispatch_history.specs.Ordered.{extend}
use Rattle.dispatcher.proofs.Laws.Standing.{after_of}
use Rattle.live_input.specs.Standing.{IsMaskOfHeld, LiveIs}
use Rattle.live_input.specs.State.{LiveState}
use Rattle.live_input.specs.Settling.{next_due}
use Rattle.live_input.proofs.Following.{advances_more, advanced, live_noted, none_follows, plain_due}
use Rattle.live_input.proofs.Reported.{none_named}
use Rattle.live_input.proofs.live.Live.catch_up.Goals as goal

pub loop-made-preserved : goal.loop-made-preserved
loop-made-preserved c =
    record {
      advances = λ ds es h.
          let a = c.loop-made.invariant.advances ds es h in
          let there = subst (LiveIs ds (extend ds es a.calls)) (sym c.self.view_is) a.is in
          let next = sym (c.next_due.ensures (extend ds es a.calls) (after_of (extend ds es a.calls) _ there.stands)) ∙ c.in-Some.is in
          let plain = plain_due c.loop-made.self.seats c.args.now (extend ds es a.calls) c.in-Some.call next in
          advances_more ds c.args.now es _ _ c.note.new.self c.in-Some.call a next
          (c.in_ok-note.ensures.after ds (extend ds es a.calls) a.is plain.0 plain.1)
          (c.in_ok-note.ensures.named ds (extend ds es a.calls) a.is);
      still = λ ds es h quiet.
          let a = c.loop-made.invariant.advances ds es h in
          let there = subst (LiveIs ds (extend ds es a.calls)) (sym c.self.view_is) a.is in
          let next = sym (c.next_due.ensures (extend ds es a.calls) (after_of (extend ds es a.calls) _ there.stands)) ∙ c.in-Some.is in
          absurd (none_follows (next_due c.args.now) ds es a.calls c.in-Some.call a.follows quiet next);
      clients = record { seats_are = c.note.ensures.clients.seats_are ∙ c.loop-made.invariant.clients.seats_are; opened_is = c.note.ensures.clients.opened_is ∙ c.loop-made.invariant.clients.opened_is; terms_are = c.note.ensures.clients.terms_are ∙ c.loop-made.invariant.clients.terms_are; devices_are = c.note.ensures.clients.devices_are ∙ c.loop-made.invariant.clients.devices_are; pending_is = c.note.ensures.clients.pending_is ∙ c.loop-made.invariant.clients.pending_is; fingers_are = c.note.ensures.clients.fingers_are ∙ c.loop-made.invariant.clients.fingers_are };
      clock = c.note.ensures.clock ∙ c.loop-made.invariant.clock;
    }

pub returns-in_default-clause-ok : goal.returns-in_default-clause-ok
returns-in_default-clause-ok c = λ ds es h.
    let a = c.loop-made.invariant.advances ds es h in
    let there = subst (LiveIs ds (extend ds es a.calls)) (sym c.self.view_is) a.is in
    advanced ds c.args.now es _ _ _ _ a
    (sym (c.next_due.ensures (extend ds es a.calls) (after_of (extend ds es a.calls) _ there.stands)) ∙ c.in_default.is)
    (ap (λ (s : LiveState). s.reported) c.self.view_is)
    (live_noted ds (extend ds es a.calls) _ 0 there (none_named 0 _ refl))
    refl

pub returns-in_default-clause-reported : goal.returns-in_default-clause-reported
returns-in_default-clause-reported c = λ ds es h.
    let named = (c.loop-made.invariant.advances ds es h).is.reported_are in
    subst (IsMaskOfHeld c.self.inside.reported) (ap (λ (s : LiveState). s.seats) c.self.view_is ∙ c.loop-made.invariant.clients.seats_are)
    (subst (λ (s : LiveState). IsMaskOfHeld s.reported s.seats) (sym c.self.view_is) named)

pub returns-in_err-note-clause-still : goal.returns-in_err-note-clause-still
returns-in_err-note-clause-still c = λ ds es h quiet.
    let a = c.loop-made.invariant.advances ds es h in
    let there = subst (LiveIs ds (extend ds es a.calls)) (sym c.self.view_is) a.is in
    let next = sym (c.next_due.ensures (extend ds es a.calls) (after_of (extend ds es a.calls) _ there.stands)) ∙ c.in-Some.is in
    absurd (none_follows (next_due c.args.now) ds es a.calls c.in-Some.call a.follows quiet next)

pub returns-clause-still : goal.returns-clause-still
returns-clause-still c = λ ds es h quiet.
    let none = c.loop-made.invariant.still ds es h quiet in absurd (omega (arith, c.loop-made-test.false, none))
