-- The dispatcher has the room.
use Rattle.std.proofs.Common.{◌≤◌, ◌*◌, sym, subst}
use Rattle.std.proofs.lemmas.Bool.{true≢false}
use Rattle.live_input.specs.Room.{most_args}
use Rattle.live_input.specs.Standing.{LiveIs}
use Rattle.live_input.specs.State.{LiveState}
use Rattle.live_input.proofs.Roomy.{has_room, live_roomy, live_same}
use Rattle.live_input.proofs.live.Live.reserve.Goals as goal

pub returns-clause-room : goal.returns-clause-room
returns-clause-room c = has_room (c.args.events * most_args) _ c.self.inside.dispatcher c.in_ok-reserve.ensures.ok

pub returns-clause-stands : goal.returns-clause-stands
returns-clause-stands c = λ ds es h.
    let before = subst (LiveIs ds es) (sym c.self.view_is) h in
    live_roomy ds es _ (c.args.events * most_args) c.reserve.new.self before c.in_ok-reserve.ensures.ok (c.reserve.ensures.stays es before.stands)

pub returns-in_err-reserve-clause-stands : goal.returns-in_err-reserve-clause-stands
returns-in_err-reserve-clause-stands c = λ ds es h.
    live_same ds es _ c.reserve.new.self (subst (LiveIs ds es) (sym c.self.view_is) h) c.in_err-reserve.ensures.err

pub returns-in_err-reserve-clause-again : goal.returns-in_err-reserve-clause-again
returns-in_err-reserve-clause-again c = λ room.
    absurd
    (true≢false
    (sym
    (c.in_err-reserve.ensures.reserved
    (subst (λ (s : LiveState). c.args.events * most_args ≤ s.dispatcher.queue.spare) (sym c.self.view_is) room.spare)
    (subst (λ (s : LiveState). c.args.events * most_args ≤ s.dispatcher.queue.pumps) (sym c.self.view_is) room.pumps))))
