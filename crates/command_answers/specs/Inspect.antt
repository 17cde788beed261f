-- What `inspect` answers for a session and a recording.
use Rattle.std.specs.Prelude.{◌≡◌, ℕ, List, reverse, Ok}
use Rattle.raw_events.specs.declared.event.RawEvent.{RawEvent}
use Rattle.session_plan.specs.Plan.{PlanData}
use Rattle.session_plan.specs.View.{plan_view}
use Rattle.inspect_text.specs.Inspected.{inspected}
use Rattle.command_files.specs.declared.keyed.KeyedPlan.{KeyedPlan}
use Rattle.command_files.specs.Cooked.{plans_of}
use Rattle.command_files.specs.Devices.{devices_of}
use Rattle.command_files.specs.Inputs.{lined_file}
use Rattle.command_files.specs.Judged.{Answer, Ends, Origin, Reads}

-- the text about a session, with the lines of its keys that nothing reads, and about a recording, by its events and
-- its lines, in order
abbrev pub looked_at : PlanData × List ℕ → List RawEvent × List (List ℕ) → List ℕ
looked_at session recording =
    inspected (devices_of session.0) (reverse recording.1) (plans_of session.0) (reverse recording.0) session.0.steps session.1

-- what `inspect` answers for a session and a recording that are accepted
abbrev pub InspectAnswers : PlanData × List ℕ → List RawEvent × List (List ℕ) → Answer → Type 0
InspectAnswers session recording a = Ok (looked_at session recording) ≡ a

-- the answer once the session is accepted: the recording is judged, and then the contents of both are printed
abbrev pub CountsAnswer : List ℕ → Origin → PlanData × List ℕ → Answer → Type 0
CountsAnswer events from session a =
    Reads from events (lined_file (devices_of session.0)) (λ rest recording. Ends (InspectAnswers session recording) rest) a

-- a session that was read, with the lines of its keys that nothing reads
abbrev pub session_view : KeyedPlan → PlanData × List ℕ
session_view s = (plan_view s.plan, s.unread.items)
