-- The files that a run reads, and how each is judged.
use Rattle.std.specs.Prelude.{codes, ℕ, nat_le, cond, List, length, Option, Result, Ok, Err}
use Rattle.compare_text.specs.Indexed.{file_sections}
use Rattle.compare_text.specs.Points.{Section}
use Rattle.outside_io.specs.Outside.{Entry}
use Rattle.raw_events.specs.declared.event.RawEvent.{RawEvent}
use Rattle.raw_events.specs.declared.event.LineError.{LineError}
use Rattle.raw_events.specs.Line.{Known}
use Rattle.raw_events.specs.Recording.{lines_of, recorded}
use Rattle.session_plan.specs.Fault.{Fault}
use Rattle.session_plan.specs.Plan.{PlanData}
use Rattle.session_plan.specs.Session.{session_of}
use Rattle.stream_text.specs.declared.order_line.OrderLine.{OrderLine}
use Rattle.stream_text.specs.OrderText.{order_of}
use Rattle.unread_keys.specs.Session.{unread_text}
use Rattle.command_files.specs.Devices.{devices_of}
use Rattle.command_files.specs.Judged.{FileKind, IsJudged, judged, with_more}
use Rattle.command_files.specs.declared.refusal.Input.{Input}
use Rattle.command_files.specs.declared.refusal.Input.TheVariants as input
use Rattle.command_files.specs.RefusalView.{input_word, subject_of, subject_word}
use Rattle.command_files.specs.Refused.{Refused, bad_got_line, bad_order_line, bad_want_line, session_refused, recording_refused, too_long}

-- the most bytes of a session, 4 MiB
abbrev pub session_limit : ℕ
session_limit = 4194304

-- the most bytes of a recording, 32 MiB
abbrev pub recording_limit : ℕ
recording_limit = 33554432

-- the most bytes of an order file, 64 MiB
abbrev pub order_limit : ℕ
order_limit = 67108864

-- the most bytes of a stream file, 64 MiB
abbrev pub stream_limit : ℕ
stream_limit = 67108864

-- the most steps of a session
abbrev pub step_limit : ℕ
step_limit = 100000

-- a plan is run if it does not have too many steps
abbrev pub runnable : PlanData → Result PlanData Refused
runnable plan = cond (nat_le (length plan.steps) step_limit) (Ok plan) (Err (too_long (codes "steps")))

-- what is read of a session: a plan with not too many steps, or its first fault
abbrev pub plan_judged : Result PlanData Fault → Result PlanData Refused
plan_judged (Ok plan) = runnable plan
plan_judged (Err fault) = Err (session_refused fault)

-- session files: their rules are checked, and then the number of steps
abbrev pub session_file : FileKind PlanData
session_file = record { limit = session_limit; file = codes "session"; what = codes "session"; rule = λ bytes. plan_judged (session_of bytes) }

-- the plan of a session file, or why it is refused
abbrev pub session_judged : List ℕ → Result PlanData Refused
session_judged bytes = judged session_file bytes

-- session files, with the lines of their keys that nothing reads
abbrev pub keyed_file : FileKind (PlanData × List ℕ)
keyed_file = with_more session_file unread_text

-- the events of all lines, or the refusal of the first refused line
abbrev pub lines_judged : Result (List RawEvent) LineError → Result (List RawEvent) Refused
lines_judged (Ok events) = Ok events
lines_judged (Err error) = Err (recording_refused error)

-- recordings of these devices: each of their lines is checked
abbrev pub events_file : Known → FileKind (List RawEvent)
events_file devices =
    record { limit = recording_limit; file = codes "recording"; what = codes "recording"; rule = λ bytes. lines_judged (recorded devices bytes) }

-- recordings of these devices, with their lines
abbrev pub lined_file : Known → FileKind (List RawEvent × List (List ℕ))
lined_file devices = with_more (events_file devices) lines_of

-- the events of a recording of these devices, or why it is refused
abbrev pub events_judged : Known → List ℕ → Result (List RawEvent) Refused
events_judged devices bytes = judged (events_file devices) bytes

-- the lines of an order, or the refusal of its first bad or missing line
abbrev pub order_lines : Result (List OrderLine) ℕ → Result (List OrderLine) Refused
order_lines (Ok lines) = Ok lines
order_lines (Err n) = Err (bad_order_line n)

-- order files: each of their lines is checked
abbrev pub order_file : FileKind (List OrderLine)
order_file = record { limit = order_limit; file = codes "order"; what = codes "order"; rule = λ bytes. order_lines (order_of bytes) }

-- files of streams that are read for this, of which only the length is checked here
abbrev pub stream_kind : Input → FileKind (List ℕ)
stream_kind file = record { limit = stream_limit; file = input_word file; what = subject_word (subject_of file); rule = λ bytes. Ok bytes }

-- the one file of streams of a command
abbrev pub stream_file : FileKind (List ℕ)
stream_file = stream_kind input.Stream

-- the sections of streams, or the refusal of the first bad or missing line
abbrev pub sections_said : (ℕ → Refused) → Result (List Section) ℕ → Result (List Section) Refused
sections_said Bad (Ok sections) = Ok sections
sections_said Bad (Err n) = Err (Bad n)

-- stream files whose sections are compared: each of their lines is checked
abbrev pub sections_file : Input → (ℕ → Refused) → FileKind (List Section)
sections_file file Bad =
    record {
      limit = stream_limit;
      file = input_word file;
      what = subject_word (subject_of file);
      rule = λ bytes. sections_said Bad (file_sections bytes);
    }

-- the expected sections
abbrev pub want_file : FileKind (List Section)
want_file = sections_file input.Want bad_want_line

-- the actual sections
abbrev pub got_file : FileKind (List Section)
got_file = sections_file input.Got bad_got_line

-- the expected sections, or why their file is refused
abbrev pub want_judged : List ℕ → Result (List Section) Refused
want_judged bytes = judged want_file bytes

-- the session under this name is accepted
abbrev pub IsAccepted : Option (List Entry) → List ℕ → Type 0
IsAccepted told name = (plan : PlanData) × IsJudged told name session_judged (Ok plan)

-- the session and the recording under these names are accepted
abbrev pub AreAccepted : Option (List Entry) → List ℕ → List ℕ → Type 0
AreAccepted told session events =
    (plan : PlanData) × IsJudged told session session_judged (Ok plan)
    × ((given : List RawEvent) × IsJudged told events (events_judged (devices_of plan)) (Ok given))

-- the expected streams under this name are accepted
abbrev pub IsWant : Option (List Entry) → List ℕ → Type 0
IsWant told want = (sections : List Section) × IsJudged told want want_judged (Ok sections)
