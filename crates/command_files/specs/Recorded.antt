-- A recording that is read piece by piece, and the run of what it gives.
use Rattle.std.specs.Prelude.{◌≡◌, ℕ, Bool, true, false, List, ◌++◌, length, reverse, Ok, Err, ⊤}
use Rattle.raw_events.specs.declared.event.RawEvent.{RawEvent}
use Rattle.raw_events.specs.declared.event.LineError.{LineError}
use Rattle.raw_events.specs.declared.event.LineError.TheVariants as errors
use Rattle.raw_events.specs.Pieces.{Place, Reader, still, with_events}
use Rattle.raw_events.specs.Recording.{line_len, recorded}
use Rattle.device_reader.specs.All.{ReadersState}
use Rattle.device_reader.specs.CookedList.{ReadersStandFor}
use Rattle.session_plan.specs.Plan.{PlanData}
use Rattle.schedule.specs.declared.plan.Plan.{Plan as RunPlan}
use Rattle.schedule.specs.Planned.{plan_of}
use Rattle.schedule.specs.declared.keeping.Lines.{Lines}
use Rattle.schedule.specs.State.{ScheduleState, RanWith, CompletedWith}
use Rattle.command_files.specs.Cooked.{plans_of}
use Rattle.command_files.specs.Devices.{devices_of}
use Rattle.command_files.specs.Planned.{given, script_of}
use Rattle.command_files.specs.declared.refusal.Refusal.{Refusal}
use Rattle.command_files.specs.declared.refusal.Refusal.TheVariants.{Recording, NoMemory}

-- the reader of lines, the readers of the devices, and the run
pub record RecordingState : Type 0 where
  pub reader : Reader
  pub readers : ReadersState
  pub schedule : ScheduleState

-- the bytes of the line that has begun have no newline
abbrev pub HasBegun : Place → Type 0
HasBegun (Err error) = Unit {0}
HasBegun (Ok at) = line_len at.1 ≡ length at.1

-- These bytes were read: whatever follows them, the reader goes on to what all bytes record, and the run is that of
-- the events so far, newest first, with these lines.
pub record HasRead (how : Lines) (plan : PlanData) (bytes : List ℕ) (s : RecordingState) : Type 0 where
  pub past : List RawEvent
  pub read : (rest : List ℕ) → with_events (reverse past) (still s.reader rest) ≡ recorded (devices_of plan) (bytes ++ rest)
  pub begun : HasBegun s.reader.place
  pub readers : ReadersStandFor (plans_of plan) past s.readers
  pub ran : RanWith how (script_of plan) (given plan past) s.schedule

-- a piece was read in addition to what was read before
abbrev pub Feeds : RunPlan → RecordingState → RecordingState → List ℕ → Type 0
Feeds run old new piece =
    (how : Lines) (plan : PlanData) (bytes : List ℕ) → plan_of run ≡ script_of plan → HasRead how plan bytes old → HasRead how plan (bytes ++ piece) new

-- these bytes record these events, and the run is done, with these lines
pub record HasEnded (how : Lines) (plan : PlanData) (bytes : List ℕ) (s : ScheduleState) : Type 0 where
  pub past : List RawEvent
  pub read : recorded (devices_of plan) bytes ≡ Ok (reverse past)
  pub completed : CompletedWith how (script_of plan) (given plan past) s

-- memory ran out
abbrev pub is_memory : LineError → Bool
is_memory errors.Memory = true
is_memory error = false

-- the refusal for a line
abbrev pub refusal_of : LineError → Refusal
refusal_of errors.Memory = NoMemory
refusal_of error = Recording error

-- these bytes are refused for their first refused line, or memory ran out
abbrev pub RefusesEvents : PlanData → List ℕ → Refusal → Type 0
RefusesEvents plan bytes (Recording e) = recorded (devices_of plan) bytes ≡ Err e
RefusesEvents plan bytes NoMemory = ⊤
RefusesEvents plan bytes r = ⊥
