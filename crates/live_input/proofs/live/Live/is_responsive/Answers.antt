-- A client that is open has an opened channel.
use Rattle.std.proofs.Common.{refl, sym, ◌∙◌, subst}
use Rattle.std.proofs.lemmas.Bool.{and_parts}
use Rattle.window_snapshot.specs.Mask.{is_channel}
use Rattle.dispatcher.proofs.Laws.Standing.{after_of}
use Rattle.live_input.specs.Seats.{is_of, seat_of}
use Rattle.live_input.specs.Standing.{LiveIs}
use Rattle.live_input.proofs.Asked.{responds_by}
use Rattle.live_input.proofs.Opened.{held_opened, open_held}
use Rattle.live_input.proofs.live.Live.is_responsive.Goals as goal

pub due-due-requires : goal.due-due-requires
due-due-requires c =
    let k = c.args.client in
    (and_parts (is_channel k.channel) (is_of k.generation (seat_of c.self.inside.seats k.channel).holder) (sym c.is_open.ensures ∙ c.if-not-is_open.false)).0

pub returns-clause-open : goal.returns-clause-open
returns-clause-open c = λ ds es h is.
    let there = subst (LiveIs ds es) (sym c.self.view_is) h in
    let after = after_of es c.self.inside.dispatcher there.stands in
    let held = open_held c.args.self.now.seats c.args.client is in
    let opened = held_opened es c.args.self.now.seats c.args.self.now.seats c.args.client.channel h.seats_are refl held.0 held.1 held.2 in
    c.responds.ensures
    ∙ responds_by es c.args.client.channel c.oldest-first.result c.due-due.result (c.oldest-first.ensures es after opened)
    (c.due-due.ensures es after)
