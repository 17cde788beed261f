-- The finish was done.
use Rattle.dispatch_calls.specs.declared.call.Call.TheVariants.{Finish}
use Rattle.schedule.specs.declared.due.What.TheVariants as whats
use Rattle.schedule.specs.Planned.{plan_of}
use Rattle.schedule.proofs.Advancing.{advances, due_plain}
use Rattle.schedule.proofs.schedule.Schedule.finish_at_once.Goals as goal

pub returns-clause-after : goal.returns-clause-after
returns-clause-after c = λ how es r overdue yes'.
    let found = c.in-Some.found in
    let first = c.in-Some.ensures how es r overdue in
    advances how (plan_of c.args.plan.now) es c.args.self.now c.finish_round.new.self c.args.until (Finish found.moment found.channel found.seq) r
    (due_plain found.moment (whats.Finish found.channel found.seq)) first.1 first.0 (c.in_ok-finish_round.ensures.after how (plan_of c.args.plan.now) es r)
