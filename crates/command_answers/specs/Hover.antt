-- What `hover` answers for a recording.
use Rattle.std.specs.Prelude.{◌≡◌, ℕ, List, ◌∷◌, reverse, Ok, []}
use Rattle.raw_events.specs.declared.event.RawEvent.{RawEvent}
use Rattle.raw_events.specs.Line.{Known}
use Rattle.hover_text.specs.Text.{hovered_text}
use Rattle.session_plan.specs.Plan.{PlanData}
use Rattle.command_files.specs.Judged.{Answer, Ends, Origin, Reads}
use Rattle.command_files.specs.Inputs.{events_file}

-- the mouse alone, as device 1
abbrev pub mouse_alone : List ℕ → Known
mouse_alone path = (path, 1) ∷ []

-- what the windows of a session are sent for the mouse, with its events in order
abbrev pub HoverAnswers : PlanData → List RawEvent → Answer → Type 0
HoverAnswers plan events a = Ok (hovered_text plan (reverse events)) ≡ a

-- the answer once the session is accepted: the recording of the mouse is judged, and then it is moved
abbrev pub MouseAnswers : List ℕ → List ℕ → Origin → PlanData → Answer → Type 0
MouseAnswers events path from plan a =
    Reads from events (events_file (mouse_alone path)) (λ rest given. Ends (HoverAnswers plan given) rest) a
