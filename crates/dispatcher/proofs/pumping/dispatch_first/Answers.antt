use Rattle.std.proofs.Common.{◌-◌, max, IfSome, option_copied, sym, ap, ◌∙◌, subst}
use Rattle.dispatch_calls.specs.declared.call.Call.TheVariants.{Pump}
use Rattle.dispatch_calls.specs.declared.reply.Reply.TheVariants.{Dispatched}
use Rattle.dispatcher.specs.Tables.{GoesOn}
use Rattle.std.proofs.lemmas.Bool.{true≢false}
use Rattle.dispatcher.proofs.Room.Roomy.{promise_less, promise_ok, same_room}
use Rattle.dispatcher.proofs.Made.Timely.{timely}
use Rattle.dispatcher.proofs.Laws.Stepped.{dispatched_on, other_pumps}
use Rattle.dispatcher.proofs.pumping.dispatch_first.Goals as goal

pub dispatch-requires : goal.dispatch-requires
dispatch-requires c =
    timely _ c.requires.history c.args.tables.now.queueing c.args.tables.now.routing c.args.now c.later-clock.result c.requires.stands
    (c.later-clock.ensures ∙ ap (λ n. max c.args.now n) c.clock.ensures)

pub returns-in_ok-dispatch-clause-ok : goal.returns-in_ok-dispatch-clause-ok
returns-in_ok-dispatch-clause-ok c =
    let first = sym c.first.ensures ∙ ap option_copied c.in-Some.is in
    let old = c.args.tables.now in
    let goes : GoesOn (Pump c.args.now) Dispatched old (record { queueing = c.spend_pump.new.self; routing = c.dispatch.new.routing }) =
    subst (λ q. GoesOn (Pump c.args.now) Dispatched old (record { queueing = q; routing = c.dispatch.new.routing })) (sym c.spend_pump.ensures)
    (other_pumps (Pump c.args.now) Dispatched old c.dispatch-in-Some.new.self c.dispatch.new.routing _
    (dispatched_on old c.dispatch-in-Some.new.self c.dispatch.new.routing c.in-Some.args.now c.args.now c.place-place.result c.later-clock.result first
    (c.later-clock.ensures ∙ ap (λ n. max c.args.now n) c.clock.ensures)
    c.place-place.ensures
    c.dispatch-in-Some.ensures
    c.in_ok-dispatch.ensures.ok)) in
    subst
    (λ o. IfSome o (λ args. GoesOn (Pump c.args.now) Dispatched old (record { queueing = c.spend_pump.new.self; routing = c.dispatch.new.routing })))
    (sym first)
    goes

pub returns-in_ok-dispatch-clause-promise : goal.returns-in_ok-dispatch-clause-promise
returns-in_ok-dispatch-clause-promise c keeps =
    promise_less c.args.tables.now.queueing.pumps c.spend_pump.new.self.pumps c.args.tables.now.routing c.dispatch.new.routing
    (ap (λ q. q.pumps) c.spend_pump.ensures ∙ ap (λ q. q.pumps - 1) c.dispatch-in-Some.ensures) keeps (λ k room. (c.in_ok-dispatch.ensures.roomy k room).1)

pub returns-in_err-dispatch-clause-pumped : goal.returns-in_err-dispatch-clause-pumped
returns-in_err-dispatch-clause-pumped c some keeps =
    absurd (promise_ok _ c.args.tables.now.queueing.pumps c.args.tables.now.routing some keeps (λ k room. true≢false (sym (c.in_err-dispatch.ensures.roomy k room).0)))

pub returns-in_err-dispatch-clause-promise : goal.returns-in_err-dispatch-clause-promise
returns-in_err-dispatch-clause-promise c keeps some = same_room _ c.args.tables.now.routing c.dispatch.new.routing c.in_err-dispatch.ensures.err (keeps some)
