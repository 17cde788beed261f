-- A message is received and released.
use Rattle.std.proofs.Common.{◌≡◌, ◌+◌, refl, sym, ap, ap₂, ◌∙◌, subst}
use Rattle.std.specs.Prelude.{IfSome}
use Rattle.dispatch_calls.specs.declared.call.Call.TheVariants.{Receive}
use Rattle.dispatch_history.specs.Legal.{answered}
use Rattle.dispatcher.specs.Access.{got}
use Rattle.live_input.specs.Answers.{handed}
use Rattle.live_input.specs.Seats.{IsHeld, seat_of}
use Rattle.live_input.specs.State.{LiveState}
use Rattle.live_input.specs.Outgoing.{taken}
use Rattle.live_input.proofs.Opened.{open_held}
use Rattle.live_input.proofs.Outgoing.{handed_number, live_lawful}
use Rattle.live_input.proofs.Received.{received_same, receiving_received}
use Rattle.live_input.proofs.live.Live.next.Goals as goal

pub returns-in-Ok-clause-message : goal.returns-in-Ok-clause-message
returns-in-Ok-clause-message c = λ ds es h is.
    c.handed.ensures
    ∙ ap₂ (λ s m. handed s m) (c.seat_of-seat.ensures ∙ ap (λ s. seat_of s.seats c.args.client.channel) c.self.view_is)
    (ap got (c.in-Ok.ensures.reply ds es h))

pub returns-in-Ok-clause-after : goal.returns-in-Ok-clause-after
returns-in-Ok-clause-after c = λ ds es h is.
    let k = c.args.client.channel in
    let held = open_held c.args.self.now.seats c.args.client is in
    let rest = c.apply.ensures.rest in
    let fs = answered ds (Receive k) es in
    let made = c.in-Ok.ensures.after ds es h refl held in
    let still = subst (IsHeld k) (sym (ap (λ (s : LiveState). s.seats) rest)) held in
    received_same ds es fs k _ _ _ _ _ _ c.finish_received.new.self
    (ap (λ s. s.options.finishes) (c.seat_of-seat.ensures ∙ ap (λ (s : LiveState). seat_of s.seats k) c.self.view_is))
    (ap (λ (s : LiveState). s.clock) rest)
    (ap got (c.in-Ok.ensures.reply ds es h))
    (c.finish_received.ensures.after ds fs made still)

pub returns-in-Ok-clause-numbers : goal.returns-in-Ok-clause-numbers
returns-in-Ok-clause-numbers c = λ ds es h is.
    let k = c.args.client.channel in
    let seat = seat_of c.args.self.now.seats k in
    let begun = h.tenants_are.begun k (open_held c.args.self.now.seats c.args.client is) in
    let same =
    c.handed.ensures
    ∙ ap₂ (λ s m. handed s m) (c.seat_of-seat.ensures ∙ ap (λ s. seat_of s.seats k) c.self.view_is) (ap got (c.in-Ok.ensures.reply ds es h)) in
    subst (λ o. IfSome o (λ m. m.seq ≡ taken seat es k + 1)) (sym same) (handed_number ds es seat k (live_lawful ds es _ h) begun.taken)

pub returns-in-Ok-clause-kept : goal.returns-in-Ok-clause-kept
returns-in-Ok-clause-kept c = λ ds es h is.
    let k = c.args.client.channel in
    let held = open_held c.args.self.now.seats c.args.client is in
    let there = returns-in-Ok-clause-after c ds es h is in
    there.release.messages_are k held.0 ∙ receiving_received ds (seat_of c.args.self.now.seats k) c.args.self.now.clock k es
