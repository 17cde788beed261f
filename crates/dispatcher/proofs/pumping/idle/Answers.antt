use Rattle.std.proofs.Common.{◌-◌, max, ap, sym, subst, ◌∙◌}
use Rattle.dispatch_calls.specs.declared.call.Call.TheVariants.{Pump}
use Rattle.dispatcher.specs.Tables.{GoesOn}
use Rattle.std.proofs.lemmas.Bool.{true≢false}
use Rattle.dispatcher.proofs.Room.Roomy.{promise_less, promise_ok, same_room}
use Rattle.dispatcher.specs.Outcomes.{reply_of}
use Rattle.dispatcher.proofs.Made.Timely.{timely}
use Rattle.dispatcher.proofs.Laws.Stepped.{idle_on, not_idle, other_pumps}
use Rattle.dispatcher.proofs.pumping.idle.Goals as goal

pub repeat-requires : goal.repeat-requires
repeat-requires c =
    timely _ c.requires.step.history c.args.tables.now.queueing c.args.tables.now.routing c.args.now c.later-clock.result c.requires.step.stands
    (c.later-clock.ensures ∙ ap (λ n. max c.args.now n) c.clock.ensures)

pub returns-in-Ok-clause-ok : goal.returns-in-Ok-clause-ok
returns-in-Ok-clause-ok c =
    subst (λ q. GoesOn (Pump c.args.now) (reply_of c.idle_outcome.result) c.args.tables.now (record { queueing = q; routing = c.repeat.new.routing })) (sym c.spend_pump.ensures)
    (other_pumps (Pump c.args.now) (reply_of c.idle_outcome.result) c.args.tables.now c.step.new.self c.repeat.new.routing _
    (idle_on c.args.tables.now c.step.new.self c.repeat.new.routing c.in-Ok.is_due (reply_of c.idle_outcome.result) c.args.now c.place-place.result c.later-clock.result
    c.requires.none
    (c.later-clock.ensures ∙ ap (λ n. max c.args.now n) c.clock.ensures)
    c.place-place.ensures
    c.step.ensures
    c.idle_outcome.ensures
    c.in-Ok.ensures.ok))

pub returns-in-Err-clause-calm : goal.returns-in-Err-clause-calm
returns-in-Err-clause-calm c =
    λ es s idle.
    absurd
    (not_idle es c.args.tables.now.queueing c.args.tables.now.routing c.args.now c.later-clock.result s c.requires.none
    (c.later-clock.ensures ∙ ap (λ n. max c.args.now n) c.clock.ensures)
    c.in-Err.ensures.calm
    idle)

pub returns-in-Ok-clause-promise : goal.returns-in-Ok-clause-promise
returns-in-Ok-clause-promise c keeps =
    promise_less c.args.tables.now.queueing.pumps c.spend_pump.new.self.pumps c.args.tables.now.routing c.repeat.new.routing
    (ap (λ q. q.pumps) c.spend_pump.ensures ∙ ap (λ q. q.pumps - 1) c.step.ensures) keeps (λ k room. (c.in-Ok.ensures.roomy k room).1)

pub returns-in-Err-clause-pumped : goal.returns-in-Err-clause-pumped
returns-in-Err-clause-pumped c some keeps =
    absurd (promise_ok _ c.args.tables.now.queueing.pumps c.args.tables.now.routing some keeps (λ k room. true≢false (sym (c.in-Err.ensures.roomy k room).0)))

pub returns-in-Err-clause-promise : goal.returns-in-Err-clause-promise
returns-in-Err-clause-promise c keeps some = same_room _ c.args.tables.now.routing c.repeat.new.routing c.in-Err.ensures.err (keeps some)
