-- The channels are opened, and nothing else was done.
use Rattle.std.proofs.Common.{arith}
use Rattle.std.proofs.lemmas.List.{length-map}
use Rattle.schedule.specs.Planned.{plan_of, channel_of}
use Rattle.schedule.proofs.Beginning.{begins}
use Rattle.schedule.proofs.schedule.Schedule.new.Goals as goal

pub returns : goal.returns
returns c =
    begins c.args.lines (plan_of c.args.plan.now) _ (omega (arith, length-map c.args.plan.now.channels.items channel_of, c.requires.few))
    c.in_ok-run.ensures.has c.in_ok-run.ensures.messages c.in_ok-run.ensures.latest
