use Rattle.std.proofs.Common.{◌+◌, max, refl, ap, ◌∙◌}
use Rattle.dispatcher.proofs.Room.Roomy.{promise_less, same_room}
use Rattle.dispatcher.proofs.Made.Timely.{timely}
use Rattle.dispatcher.proofs.Rounds.PassedBy.{past_on}
use Rattle.dispatcher.proofs.past.move_at_once.Goals as goal

pub route_past-requires-clause-timely : goal.route_past-requires-clause-timely
route_past-requires-clause-timely c =
    timely _ c.requires.step.history c.args.tables.now.queueing c.args.tables.now.routing c.args.now c.later-clock.result c.requires.step.stands
    (c.later-clock.ensures ∙ ap (λ n. max c.args.now n) c.clock.ensures)

pub returns-in_err-sent-clause-promise : goal.returns-in_err-sent-clause-promise
returns-in_err-sent-clause-promise c keeps some = same_room _ c.args.tables.now.routing c.route_past.new.routing c.in_err-sent.ensures.err (keeps some)

pub returns-in_default-clause-promise : goal.returns-in_default-clause-promise
returns-in_default-clause-promise c keeps some =
    same_room _ c.args.tables.now.routing c.route_past.new.routing (c.in_ok-sent.ensures.none c.in_default.is) (keeps some)

pub returns-clause-past : goal.returns-clause-past
returns-clause-past c =
    past_on c.args.tables.now c.pass.new.self c.route_past.new.routing c.args.motion.now c.args.change.now c.args.now c.in-Some.sent
    (c.args.tables.now.queueing.place + 1) c.later-clock.result
    c.requires.none
    c.requires.planned
    c.requires.device
    c.requires.rises
    c.pass.ensures
    (c.later-clock.ensures ∙ ap (λ n. max c.args.now n) c.clock.ensures)
    refl
    ((rw c.in-Some.is at c.in_ok-sent.ensures.past) (c.args.tables.now.queueing.place + 1))

pub returns-clause-promise : goal.returns-clause-promise
returns-clause-promise c keeps =
    promise_less c.args.tables.now.queueing.pumps c.pass.new.self.pumps c.args.tables.now.routing c.route_past.new.routing
    (ap (λ q. q.pumps) c.pass.ensures.is) keeps (λ k room. (rw c.in-Some.is at c.in_ok-sent.ensures.roomy k room))
