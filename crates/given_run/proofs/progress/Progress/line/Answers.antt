-- Each line has its call.
use Rattle.std.proofs.Common.{refl, sym, subst}
use Rattle.std.specs.Prelude.{IfOk, true}
use Rattle.dispatch_calls.specs.declared.call.Call.TheVariants.{Finish, Pump, Receive, Tick}
use Rattle.dispatch_history.specs.Plan.{FinishLine, PumpLine, TickLine}
use Rattle.given_run.specs.Following.{Makes}
use Rattle.given_run.specs.Planned.{whole_plan}
use Rattle.stream_text.specs.OrderAsks.{line_of}
use Rattle.given_run.proofs.Coming.{made_at}
use Rattle.given_run.proofs.progress.Progress.line.Goals as goal

pub returns-in-Reader : goal.returns-in-Reader
returns-in-Reader c = λ n es cs ss h.
    let plan = whole_plan c.args.plan.now c.args.cooked.now in
    subst (λ l. IfOk c.reader.result (Makes plan (line_of l) n es cs ss c.reader.new.self)) (sym c.in-Reader.is) (c.reader.ensures plan n es cs ss h refl)

pub returns-in-Script : goal.returns-in-Script
returns-in-Script c = λ n es cs ss h.
    let plan = whole_plan c.args.plan.now c.args.cooked.now in
    subst (λ l. IfOk c.script.result (Makes plan (line_of l) n es cs ss c.script.new.self)) (sym c.in-Script.is) (c.script.ensures c.args.cooked.now n es cs ss h)

pub returns-in_ok-call-in-Pump : goal.returns-in_ok-call-in-Pump
returns-in_ok-call-in-Pump c = λ n es cs ss h.
    let plan = whole_plan c.args.plan.now c.args.cooked.now in
    subst (λ l. Makes plan (line_of l) n es cs ss c.call.new.self true) (sym c.in-Pump.is)
    (made_at plan PumpLine n es cs ss c.call.new.self (λ t. Pump t) c.zero-now.result c.zero-now.ensures refl (c.in_ok-call-in-Pump.ensures plan n es cs ss h))

pub returns-in_ok-call-in-Tick : goal.returns-in_ok-call-in-Tick
returns-in_ok-call-in-Tick c = λ n es cs ss h.
    let plan = whole_plan c.args.plan.now c.args.cooked.now in
    subst (λ l. Makes plan (line_of l) n es cs ss c.call-in-Tick.new.self true) (sym c.in-Tick.is)
    (made_at plan TickLine n es cs ss c.call-in-Tick.new.self (λ t. Tick t) c.zero-now.result c.zero-now.ensures refl
    (c.in_ok-call-in-Tick.ensures plan n es cs ss h))

pub returns-in_ok-receive-in-Receive : goal.returns-in_ok-receive-in-Receive
returns-in_ok-receive-in-Receive c = λ n es cs ss h.
    let plan = whole_plan c.args.plan.now c.args.cooked.now in
    subst (λ l. Makes plan (line_of l) n es cs ss c.receive.new.self true) (sym c.in-Receive.is)
    (Receive c.in-Receive.channel, refl, c.in_ok-receive-in-Receive.ensures plan n es cs ss h)

pub returns-in_ok-call-in-Finish : goal.returns-in_ok-call-in-Finish
returns-in_ok-call-in-Finish c = λ n es cs ss h.
    let plan = whole_plan c.args.plan.now c.args.cooked.now in
    subst (λ l. Makes plan (line_of l) n es cs ss c.call-in-Finish.new.self true) (sym c.in-Finish.is)
    (made_at plan (FinishLine c.in-Finish.channel c.in-Finish.seq) n es cs ss c.call-in-Finish.new.self (λ t. Finish t c.in-Finish.channel c.in-Finish.seq)
    c.zero-now.result c.zero-now.ensures refl (c.in_ok-call-in-Finish.ensures plan n es cs ss h))
