-- The result of a session for the events of a recording.
use Rattle.std.specs.Prelude.{reverse, codes, ◌≡◌, ℕ, List, Result, Ok, Err}
use Rattle.raw_events.specs.declared.event.RawEvent.{RawEvent}
use Rattle.dispatch_history.specs.Effect.{Effect}
use Rattle.dispatch_history.specs.Ordered.{Ordered, Rounds}
use Rattle.session_plan.specs.DeviceDisplays.{device_displays}
use Rattle.session_plan.specs.Plan.{PlanData}
use Rattle.stream_text.specs.StreamsHistory.{streams_text}
use Rattle.schedule.specs.Run.{IsWithin, IsTooLong}
use Rattle.command_files.specs.Planned.{run_of, names_of}
use Rattle.command_files.specs.Refused.{Refused, too_long}
use Rattle.command_answers.specs.Whole.{AreWhole}
use Rattle.command_files.specs.Judged.{Answer, Ends, Origin, Reads}
use Rattle.command_files.specs.Inputs.{events_file}
use Rattle.command_files.specs.Devices.{devices_of}

-- The text of the streams of the ordered run, whose calls and messages are within the limits. Events are newest first.
pub record Replayed (plan : PlanData) (past : List RawEvent) (text : List ℕ) : Type 0 where
  pub es : List Effect
  pub ordered : Ordered (run_of plan past) es
  pub within : IsWithin es
  pub whole : AreWhole (device_displays plan.devices) es
  pub text_is : text ≡ streams_text (names_of plan) es

-- the ordered run has more calls or more messages than the limits
pub record Overruns (plan : PlanData) (past : List RawEvent) : Type 0 where
  pub es : List Effect
  pub rounds : Rounds (run_of plan past) es
  pub too_many : IsTooLong es

-- the text of a session for the events of a recording, or that its run is too long
abbrev pub Replays : PlanData → List RawEvent → Result (List ℕ) Refused → Type 0
Replays plan past (Ok text) = Replayed plan past text
Replays plan past (Err r) = Overruns plan past × (r ≡ too_long (codes "run"))

-- the result of a session for the events of a recording, in order
abbrev pub RunAnswers : PlanData → List RawEvent → Answer → Type 0
RunAnswers plan events a = Replays plan (reverse events) a

-- the answer once the session is accepted: the recording is judged, and then comes the run
abbrev pub RecordingAnswers : List ℕ → Origin → PlanData → Answer → Type 0
RecordingAnswers events from plan a =
    Reads from events (events_file (devices_of plan)) (λ rest given. Ends (RunAnswers plan given) rest) a
