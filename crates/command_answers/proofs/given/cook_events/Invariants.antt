use Rattle.std.proofs.Common.{◌≡◌, map, take, reverse, []}
use Rattle.session_plan.specs.Plan.{PlanData}
use Rattle.device_reader.specs.CookedList.{ReadersStandFor}
use Rattle.given_run.specs.Planned.{cooked_of}
use Rattle.command_files.specs.Cooked.{plans_of}
use Rattle.command_files.specs.Planned.{given}
use Rattle.command_answers.proofs.given.cook_events.Given as goal

-- what the events so far give
abbrev pub invariant-loop-event : goal.invariant-loop-event
invariant-loop-event l = (p : PlanData) → ReadersStandFor (plans_of p) [] l.initial.readers
    → ReadersStandFor (plans_of p) (reverse (take l.event-index l.events)) l.readers × (map cooked_of l.all.items ≡ given p (reverse (take l.event-index l.events)))
