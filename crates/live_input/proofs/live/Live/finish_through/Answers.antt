-- The messages are finished by their numbers in the channel, at the clock.
use Rattle.std.proofs.Common.{◌≡◌, true, Ok, Err, refl, sym, ap, ◌∙◌, subst}
use Rattle.dispatcher.proofs.Laws.Standing.{after_of}
use Rattle.live_input.specs.declared.refused.FinishRefused.TheVariants.{Memory}
use Rattle.live_input.specs.Seats.{IsHeld, number_of, seat_of}
use Rattle.live_input.specs.Standing.{LiveIs}
use Rattle.live_input.specs.State.{LiveState, latest}
use Rattle.live_input.specs.Through.{has_received}
use Rattle.live_input.proofs.Finishing.{through_same}
use Rattle.live_input.proofs.Handing.{live_later}
use Rattle.live_input.proofs.Opened.{held_opened, open_held}
use Rattle.live_input.proofs.live.Live.finish_through.Goals as goal

pub returns-in-Ok-clause-after : goal.returns-in-Ok-clause-after
returns-in-Ok-clause-after c = λ ds es h is.
    let k = c.args.client.channel in
    let number : c.number_of-last.result ≡ number_of (seat_of c.args.self.now.seats k) c.args.seq =
    c.number_of-last.ensures ∙ ap (λ s. number_of s c.args.seq) (c.seat_of.ensures ∙ ap (λ (s : LiveState). seat_of s.seats k) c.self.view_is) in
    let there = subst (LiveIs ds es) (sym c.self.view_is) h in
    let held = open_held c.args.self.now.seats c.args.client is in
    let opened = held_opened es _ _ k h.seats_are refl held.0 held.1 held.2 in
    let got : has_received k c.number_of-last.result es ≡ true =
    sym (c.has_received.ensures es (after_of es _ there.stands) opened) ∙ c.if-not-has_received.false in
    let rest = c.raise-now.ensures.rest in
    let raised = subst (LiveIs ds es) (sym rest) (live_later ds es _ _ h) in
    let still = subst (IsHeld k) (sym (ap (λ (s : LiveState). s.seats) rest)) held in
    through_same ds c.raise-now.result (latest c.args.now c.args.self.now) k c.number_of-last.result (number_of (seat_of c.args.self.now.seats k) c.args.seq) es (Ok tt) c.args.self.now c.finish_all.new.self c.raise-now.ensures.latest number (
      got,
      ap (λ (s : LiveState). s.clock) (c.finish_all.ensures.rest ∙ ap (λ (s : LiveState). record s { dispatcher = c.finish_all.new.self.dispatcher; steps = c.finish_all.new.self.steps }) rest)
          ∙ sym c.raise-now.ensures.latest,
      c.in-Ok.ensures.done ds es raised still,
    )

pub returns-in-Err-clause-after : goal.returns-in-Err-clause-after
returns-in-Err-clause-after c = λ ds es h is.
    let k = c.args.client.channel in
    let number : c.number_of-last.result ≡ number_of (seat_of c.args.self.now.seats k) c.args.seq =
    c.number_of-last.ensures ∙ ap (λ s. number_of s c.args.seq) (c.seat_of.ensures ∙ ap (λ (s : LiveState). seat_of s.seats k) c.self.view_is) in
    let there = subst (LiveIs ds es) (sym c.self.view_is) h in
    let held = open_held c.args.self.now.seats c.args.client is in
    let opened = held_opened es _ _ k h.seats_are refl held.0 held.1 held.2 in
    let got : has_received k c.number_of-last.result es ≡ true =
    sym (c.has_received.ensures es (after_of es _ there.stands) opened) ∙ c.if-not-has_received.false in
    let rest = c.raise-now.ensures.rest in
    let raised = subst (LiveIs ds es) (sym rest) (live_later ds es _ _ h) in
    let still = subst (IsHeld k) (sym (ap (λ (s : LiveState). s.seats) rest)) held in
    through_same ds c.raise-now.result (latest c.args.now c.args.self.now) k c.number_of-last.result (number_of (seat_of c.args.self.now.seats k) c.args.seq) es (Err Memory) c.args.self.now c.finish_all.new.self c.raise-now.ensures.latest number (
      got,
      ap (λ (s : LiveState). s.clock) (c.finish_all.ensures.rest ∙ ap (λ (s : LiveState). record s { dispatcher = c.finish_all.new.self.dispatcher; steps = c.finish_all.new.self.steps }) rest)
          ∙ sym c.raise-now.ensures.latest,
      c.in-Err.ensures.stops ds es raised still,
    )

pub returns-then-not-has_received-clause-after : goal.returns-then-not-has_received-clause-after
returns-then-not-has_received-clause-after c = λ ds es h is.
    let k = c.args.client.channel in
    let number : c.number_of-last.result ≡ number_of (seat_of c.args.self.now.seats k) c.args.seq =
    c.number_of-last.ensures ∙ ap (λ s. number_of s c.args.seq) (c.seat_of.ensures ∙ ap (λ (s : LiveState). seat_of s.seats k) c.self.view_is) in
    let there = subst (LiveIs ds es) (sym c.self.view_is) h in
    let held = open_held c.args.self.now.seats c.args.client is in
    let opened = held_opened es _ _ k h.seats_are refl held.0 held.1 held.2 in (
      ap (λ n. has_received k n es) (sym number) ∙ sym (c.has_received.ensures es (after_of es _ there.stands) opened) ∙ c.if-not-has_received.true,
      refl,
    )
