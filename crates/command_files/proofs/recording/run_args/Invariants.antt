use Rattle.std.proofs.Common.{List, ◌++◌, take}
use Rattle.dispatch_history.specs.Plan.{Cooked}
use Rattle.schedule.specs.declared.keeping.Lines.{Lines}
use Rattle.schedule.specs.Planned.{plan_of}
use Rattle.schedule.specs.State.{RanWith}
use Rattle.command_files.proofs.NextGiven.{all_at}
use Rattle.command_files.proofs.recording.run_args.Given as goal

-- the args so far were handed in
abbrev pub invariant-loop-a : goal.invariant-loop-a
invariant-loop-a l = (how : Lines) (before : List Cooked) → RanWith how (plan_of l.plan) before l.initial.schedule → RanWith how (plan_of l.plan) (before ++ all_at l.moment (take l.a-index l.args)) l.schedule
