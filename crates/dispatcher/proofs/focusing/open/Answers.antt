use Rattle.std.proofs.Common.{sym, subst}
use Rattle.dispatch_calls.specs.declared.call.Call.TheVariants.{Open}
use Rattle.dispatch_calls.specs.declared.reply.Reply.TheVariants.{Full}
use Rattle.dispatcher.specs.DispatchChannels.Changes.{OpensOrNot}
use Rattle.dispatcher.specs.Tables.{Goes}
use Rattle.dispatcher.proofs.Made.Opening.{welcome, timely_opened, opens_goes, opens_none}
use Rattle.dispatcher.proofs.focusing.open.Goals as goal

pub welcome-requires-clause-timely : goal.welcome-requires-clause-timely
welcome-requires-clause-timely c =
    let t = c.args.routing.now.channels in
    timely_opened c.args.terms c.in-Ok-Some.number c.args.clock t c.open.new.self
    (subst (λ x. OpensOrNot c.args.terms x t c.open.new.self) c.in-Ok-Some.field-0-is c.in-Ok-Some.ensures.ok)
    c.requires

pub welcome-requires-clause-room : goal.welcome-requires-clause-room
welcome-requires-clause-room c =
    let t = c.args.routing.now.channels in
    welcome c.args.terms c.in-Ok-Some.number t c.open.new.self
    (subst (λ x. OpensOrNot c.args.terms x t c.open.new.self) c.in-Ok-Some.field-0-is c.in-Ok-Some.ensures.ok)

pub returns-in-Ok-Some-clause-ok : goal.returns-in-Ok-Some-clause-ok
returns-in-Ok-Some-clause-ok c =
    let t = c.args.routing.now.channels in
    opens_goes c.args.terms c.in-Ok-Some.number c.args.place c.args.clock c.args.routing.now c.welcome.new.routing c.open.new.self
    (subst (λ x. OpensOrNot c.args.terms x t c.open.new.self) c.in-Ok-Some.field-0-is c.in-Ok-Some.ensures.ok)
    c.welcome.ensures

pub returns-in-Ok-None-clause-ok : goal.returns-in-Ok-None-clause-ok
returns-in-Ok-None-clause-ok c =
    let t = c.args.routing.now.channels in
    let full = subst (λ x. OpensOrNot c.args.terms x t c.open.new.self) c.in-Ok-None.field-0-is c.in-Ok-None.ensures.ok in
    subst (λ u. Goes (λ now. Open c.args.terms) Full c.args.place c.args.clock c.args.routing.now (record c.args.routing.now { channels = u })) (sym full.1)
    (opens_none c.args.terms c.args.place c.args.clock c.args.routing.now full.0)
