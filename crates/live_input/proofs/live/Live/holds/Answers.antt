-- The tables of touches say what a window holds.
use Rattle.std.proofs.Common.{sym, ap, ◌∙◌, subst}
use Rattle.std.proofs.lemmas.Bool.{and_parts}
use Rattle.window_snapshot.specs.Mask.{is_channel}
use Rattle.route_split.specs.Tables.{holds_at}
use Rattle.dispatcher.proofs.Laws.Standing.{after_of}
use Rattle.live_input.specs.Seats.{is_of, seat_of}
use Rattle.live_input.specs.Standing.{LiveIs}
use Rattle.live_input.proofs.live.Live.holds.Goals as goal

pub held-requires : goal.held-requires
held-requires c =
    let k = c.args.client in
    (and_parts (is_channel k.channel) (is_of k.generation (seat_of c.self.inside.seats k.channel).holder) (sym c.is_open.ensures ∙ c.if-not-is_open.false)).0

pub returns-clause-open : goal.returns-clause-open
returns-clause-open c = λ ds es h is i.
    let there = subst (LiveIs ds es) (sym c.self.view_is) h in
    c.held.ensures i
    ∙ ap (λ ts. holds_at ts c.args.client.channel c.args.device i) c.touches.ensures.value
    ∙ (c.touches.ensures.reads es (after_of es c.self.inside.dispatcher there.stands)).holds_are c.args.client.channel c.args.device i
