-- What `why` answers for a session and a recording.
use Rattle.std.specs.Prelude.{reverse, codes, ◌≡◌, ℕ, List, Result, Ok, Err}
use Rattle.raw_events.specs.declared.event.RawEvent.{RawEvent}
use Rattle.dispatch_history.specs.Effect.{Effect}
use Rattle.dispatch_history.specs.Ordered.{Ordered}
use Rattle.session_plan.specs.DeviceDisplays.{device_displays}
use Rattle.session_plan.specs.Plan.{PlanData}
use Rattle.why_text.specs.Text.{why_text}
use Rattle.schedule.specs.Run.{IsWithin}
use Rattle.command_files.specs.Devices.{devices_of}
use Rattle.command_files.specs.Inputs.{events_file}
use Rattle.command_files.specs.Judged.{Answer, Ends, Origin, Reads}
use Rattle.command_files.specs.Planned.{run_of}
use Rattle.command_files.specs.Refused.{Refused, too_long}
use Rattle.command_answers.specs.Replay.{Overruns}

-- The text of the causes of the ordered run, whose calls and messages are within the limits. Events are newest first.
pub record Explained (plan : PlanData) (past : List RawEvent) (text : List ℕ) : Type 0 where
  pub es : List Effect
  pub ordered : Ordered (run_of plan past) es
  pub within : IsWithin es
  pub text_is : text ≡ why_text (device_displays plan.devices) es

-- the causes of a session for the events of a recording, or that its run is too long
abbrev pub Explains : PlanData → List RawEvent → Result (List ℕ) Refused → Type 0
Explains plan past (Ok text) = Explained plan past text
Explains plan past (Err r) = Overruns plan past × (r ≡ too_long (codes "run"))

-- the result of a session for the events of a recording, in order
abbrev pub WhyAnswers : PlanData → List RawEvent → Answer → Type 0
WhyAnswers plan events a = Explains plan (reverse events) a

-- the answer once the session is accepted: the recording is judged, and then the causes of the run are printed
abbrev pub CausesAnswer : List ℕ → Origin → PlanData → Answer → Type 0
CausesAnswer events from plan a =
    Reads from events (events_file (devices_of plan)) (λ rest given. Ends (WhyAnswers plan given) rest) a
