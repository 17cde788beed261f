-- What `check` answers for an order file.
use Rattle.std.specs.Prelude.{codes, ◌≡◌, ℕ, ◌+◌, nat_le, cond, List, length, map, reverse, Result, Ok, Err}
use Rattle.raw_events.specs.declared.event.RawEvent.{RawEvent}
use Rattle.dispatch_calls.specs.declared.call.Call.{Call}
use Rattle.dispatch_history.specs.Given as history
use Rattle.dispatch_history.specs.Legal.{run}
use Rattle.stream_text.specs.OrderAsks.{line_of}
use Rattle.session_plan.specs.DeviceDisplays.{device_displays}
use Rattle.session_plan.specs.Plan.{PlanData}
use Rattle.stream_text.specs.declared.order_line.OrderLine.{OrderLine}
use Rattle.stream_text.specs.StreamsHistory.{streams_text}
use Rattle.command_files.specs.Judged.{Answer, Ends, Origin, Reads}
use Rattle.command_files.specs.Planned.{given, names_of, run_of}
use Rattle.command_files.specs.Refused.{no_step, too_long}
use Rattle.command_answers.specs.Whole.{AreWhole}
use Rattle.command_files.specs.Inputs.{events_file, order_file}
use Rattle.command_files.specs.Devices.{devices_of}
use Rattle.command_answers.specs.Given.{given_limit}

-- the most lines of an order that is run
abbrev pub line_limit : ℕ
line_limit = 8000000

-- The streams text of a session after these calls; or the line that requests a step that does not exist. That line
-- comes after the first line of the file and this many others.
abbrev pub steps_judged : PlanData → Result (List Call) ℕ → Answer
steps_judged plan (Ok calls) = Ok (streams_text (names_of plan) (run (device_displays plan.devices) (reverse calls)))
steps_judged plan (Err before) = Err (no_step (before + 2))

-- the result of an order for a session and the events of a recording, newest first: there may be neither too many
-- args nor too many lines
abbrev pub followed : PlanData → List RawEvent → List OrderLine → Answer
followed plan past lines =
    cond (nat_le (length (given plan past)) given_limit)
    (cond (nat_le (length lines) line_limit) (steps_judged plan (history.given_calls (run_of plan past) (map line_of lines))) (Err (too_long (codes "run"))))
    (Err (too_long (codes "run")))

-- The text for an order: that of the streams of its calls, which are whole.
pub record FollowsTo (plan : PlanData) (past : List RawEvent) (lines : List OrderLine) (text : List ℕ) : Type 0 where
  pub calls : List Call
  pub given_is : history.given_calls (run_of plan past) (map line_of lines) ≡ Ok calls
  pub whole : AreWhole (device_displays plan.devices) (run (device_displays plan.devices) (reverse calls))
  pub text_is : followed plan past lines ≡ Ok text

-- the text of an order for the events of a recording, newest first, or why it has none
abbrev pub IsFollowed : PlanData → List RawEvent → List OrderLine → Answer → Type 0
IsFollowed plan past lines (Ok text) = FollowsTo plan past lines text
IsFollowed plan past lines (Err r) = followed plan past lines ≡ Err r

-- the result of an order for the events of a recording, in order
abbrev pub OrderAnswers : PlanData → List RawEvent → List OrderLine → Answer → Type 0
OrderAnswers plan events lines a = IsFollowed plan (reverse events) lines a

-- the answer once session and recording are accepted: the order file is judged, and then comes the run
abbrev pub OrderedBy : List ℕ → PlanData → Origin → List RawEvent → Answer → Type 0
OrderedBy order plan from given a = Reads from order order_file (λ last lines. Ends (OrderAnswers plan given lines) last) a

-- the answer once the session is accepted: the recording is judged, and then the order file
abbrev pub CheckAnswers : List ℕ → List ℕ → Origin → PlanData → Answer → Type 0
CheckAnswers events order from plan a = Reads from events (events_file (devices_of plan)) (OrderedBy order plan) a
