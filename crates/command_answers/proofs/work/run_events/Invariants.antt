use Rattle.std.proofs.Common.{◌≡◌, List, ◌++◌, length, reverse, []}
use Rattle.raw_events.specs.declared.event.RawEvent.{RawEvent}
use Rattle.session_plan.specs.Plan.{PlanData}
use Rattle.device_reader.specs.CookedList.{ReadersStandFor}
use Rattle.schedule.specs.declared.keeping.Lines.TheVariants.{Counted}
use Rattle.schedule.specs.Planned.{plan_of}
use Rattle.schedule.specs.State.{RanWith, counted}
use Rattle.workload_maker.specs.Making.{left_of}
use Rattle.command_files.specs.Cooked.{plans_of}
use Rattle.command_files.specs.Planned.{given, script_of}
use Rattle.command_answers.proofs.work.run_events.Given as goal

-- what the events so far give was handed in and counted
abbrev pub invariant-loop-event : goal.invariant-loop-event
invariant-loop-event l =
    record {
      past : List RawEvent;
      all : reverse past ++ left_of l.event-iterator ≡ left_of l.fn.events;
      runs : (p : PlanData) → plan_of l.plan ≡ script_of p → ReadersStandFor (plans_of p) [] l.initial.readers → RanWith Counted (script_of p) [] l.initial.schedule
          → ReadersStandFor (plans_of p) past l.readers × RanWith Counted (script_of p) (given p past) l.schedule × (l.count ≡ counted (length (given p past)));
    }
