use Rattle.std.proofs.Common.{◌≡◌}
use Rattle.schedule.specs.Planned.{plan_of}
use Rattle.schedule.specs.State.{HasWith}
use Rattle.schedule.proofs.Beginning.{opened_first}
use Rattle.schedule.proofs.schedule.Schedule.begin.Given as goal

-- the first channels are opened
abbrev pub invariant-loop-channel : goal.invariant-loop-channel
invariant-loop-channel l =
    record {
      has : HasWith l.fn.lines (plan_of l.plan) (opened_first l.plan.displays l.plan.channels.items l.channel-index) l.run;
      latest : l.run.latest ≡ 0;
    }
