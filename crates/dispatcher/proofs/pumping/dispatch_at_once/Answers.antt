use Rattle.std.proofs.Common.{◌+◌, max, ap, ◌∙◌}
use Rattle.dispatcher.proofs.Room.Roomy.{promise_less, same_room}
use Rattle.dispatcher.proofs.Made.Timely.{timely}
use Rattle.dispatcher.proofs.Made.Through.{through_on}
use Rattle.dispatcher.proofs.pumping.dispatch_at_once.Goals as goal

pub dispatch-requires : goal.dispatch-requires
dispatch-requires c =
    timely _ c.requires.step.history c.args.tables.now.queueing c.args.tables.now.routing c.args.now c.later-clock.result c.requires.step.stands
    (c.later-clock.ensures ∙ ap (λ n. max c.args.now n) c.clock.ensures)

pub returns-clause-ok : goal.returns-clause-ok
returns-clause-ok c =
    through_on c.args.tables.now c.pass.new.self c.dispatch.new.routing c.args.args.now c.args.change.now c.args.now (c.place-place.result + 1)
    c.later-clock.result
    c.requires.none
    c.requires.planned
    c.requires.device
    c.requires.rises
    c.pass.ensures
    (c.later-clock.ensures ∙ ap (λ n. max c.args.now n) c.clock.ensures)
    (ap (λ n. n + 1) c.place-place.ensures)
    c.in_ok-dispatch.ensures.ok

pub returns-clause-promise : goal.returns-clause-promise
returns-clause-promise c keeps =
    promise_less c.args.tables.now.queueing.pumps c.pass.new.self.pumps c.args.tables.now.routing c.dispatch.new.routing
    (ap (λ q. q.pumps) c.pass.ensures.is) keeps (λ k room. (c.in_ok-dispatch.ensures.roomy k room).1)

pub returns-in_err-dispatch-clause-promise : goal.returns-in_err-dispatch-clause-promise
returns-in_err-dispatch-clause-promise c keeps some = same_room _ c.args.tables.now.routing c.dispatch.new.routing c.in_err-dispatch.ensures.err (keeps some)
