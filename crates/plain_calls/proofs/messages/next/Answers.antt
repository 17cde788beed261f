-- The message that the service gives, number by number.
use Rattle.std.proofs.Common.{◌∙◌, Option, Ok, sym, ap, subst}
use Rattle.input_types.specs.declared.message.Message.{Message}
use Rattle.live_input.specs.State.{LiveState}
use Rattle.plain_calls.specs.Calling.{answer_status, written}
use Rattle.plain_calls.specs.Getting.{Received}
use Rattle.plain_calls.specs.Clients.{client_of}
use Rattle.plain_calls.specs.Told.{plain_message, told_to, with_user_data}
use Rattle.plain_calls.proofs.messages.next.Goals as goal

pub returns-in-Ok-Some : goal.returns-in-Ok-Some
returns-in-Ok-Some c =
    let is = sym c.in-Ok-Some.field-0-is in let all = c.in-Ok-Some.ensures in (
      Ok c.in-Ok-Some.field-0,
      (
        ap (λ (o : Option Message). answer_status o) is,
        (
          subst (λ k. Received k c.args.live.now c.next.new.self (Ok c.in-Ok-Some.field-0)) c.read-client.ensures
              (record { wanted = all.wanted; stale = all.stale; message = all.message; after = all.after; numbers = all.numbers; kept = all.kept; clients = all.clients; named = all.named; clock = all.clock; err = all.err; calm = all.calm }),
          c.to.ensures
              ∙ ap (λ u. with_user_data u (plain_message c.in-Ok-Some.told)) c.user_data-user_data.ensures
              ∙ ap (λ (s : LiveState). told_to s.seats c.read-client.result c.in-Ok-Some.told) c.live.ensures
              ∙ ap (λ k. told_to c.args.live.now.live.seats k c.in-Ok-Some.told) c.read-client.ensures
              ∙ ap (λ o. written (told_to c.args.live.now.live.seats (client_of c.args.client.now)) o c.args.message.now) is,
        ),
      ),
    )

pub returns-in-Ok-None : goal.returns-in-Ok-None
returns-in-Ok-None c =
    let is = sym c.in-Ok-None.field-0-is in let all = c.in-Ok-None.ensures in (
      Ok c.in-Ok-None.field-0,
      (
        ap (λ (o : Option Message). answer_status o) is,
        (
          subst (λ k. Received k c.args.live.now c.next.new.self (Ok c.in-Ok-None.field-0)) c.read-client.ensures
              (record { wanted = all.wanted; stale = all.stale; message = all.message; after = all.after; numbers = all.numbers; kept = all.kept; clients = all.clients; named = all.named; clock = all.clock; err = all.err; calm = all.calm }),
          ap (λ o. written (told_to c.args.live.now.live.seats (client_of c.args.client.now)) o c.args.message.now) is,
        ),
      ),
    )
