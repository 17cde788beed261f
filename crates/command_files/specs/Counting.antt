-- A recording that is read piece by piece, and its counts.
use Rattle.std.specs.Prelude.{◌≡◌, ℕ, List, ◌++◌, Option, Some, None, Err}
use Rattle.raw_events.specs.declared.event.LineError.{LineError}
use Rattle.raw_events.specs.Recording.{recorded}
use Rattle.recording_counts.specs.RecordingTally.{HasCounted, TallyState}
use Rattle.session_plan.specs.Plan.{PlanData}
use Rattle.command_files.specs.Cooked.{plans_of}
use Rattle.command_files.specs.Devices.{devices_of}
use Rattle.command_files.specs.Taking.{OneMore}

-- the counts, and why a line is refused, if one is
pub record CountingState : Type 0 where
  pub tally : TallyState
  pub refused : Option LineError

-- the counts are those of these bytes; if a line of them is refused, so is each recording that begins with them
abbrev pub TakenBy : Option LineError → PlanData → List ℕ → TallyState → Type 0
TakenBy None plan bytes t = HasCounted (devices_of plan) (plans_of plan) bytes t
TakenBy (Some error) plan bytes t = (rest : List ℕ) → recorded (devices_of plan) (bytes ++ rest) ≡ Err error

-- these bytes of a recording of a session's devices were taken
abbrev pub HasTaken : PlanData → List ℕ → CountingState → Type 0
HasTaken plan bytes s = TakenBy s.refused plan bytes s.tally

-- a piece was taken in addition to what was taken before
abbrev pub CountsOn : CountingState → CountingState → List ℕ → Type 0
CountsOn old new piece = (plan : PlanData) → OneMore (HasTaken plan) old new piece
