use Rattle.std.proofs.Common.{◌≡◌, List, ◌++◌, take, reverse}
use Rattle.raw_events.specs.declared.event.RawEvent.{RawEvent}
use Rattle.session_plan.specs.Plan.{PlanData}
use Rattle.device_reader.specs.CookedList.{ReadersStandFor}
use Rattle.schedule.specs.declared.keeping.Lines.{Lines}
use Rattle.schedule.specs.Planned.{plan_of}
use Rattle.schedule.specs.State.{RanWith}
use Rattle.command_files.specs.Cooked.{plans_of}
use Rattle.command_files.specs.Planned.{given, script_of}
use Rattle.command_files.proofs.recording.run_events.Given as goal

-- what the events so far give was handed in
abbrev pub invariant-loop-event : goal.invariant-loop-event
invariant-loop-event l = (how : Lines) (p : PlanData) (past : List RawEvent) → plan_of l.plan ≡ script_of p → ReadersStandFor (plans_of p) past l.initial.readers
    → RanWith how (script_of p) (given p past) l.initial.schedule
    → ReadersStandFor (plans_of p) (reverse (take l.event-index l.events) ++ past) l.readers
    × RanWith how (script_of p) (given p (reverse (take l.event-index l.events) ++ past)) l.schedule
