-- A recording whose counts ended with a line that is refused.
use Rattle.std.proofs.Common.{◌≡◌, ℕ, List, [], ◌++◌, Err, sym, ap, ◌∙◌, append-nil}
use Rattle.raw_events.specs.declared.event.LineError.{LineError}
use Rattle.raw_events.specs.declared.event.LineError.TheVariants as errors
use Rattle.raw_events.specs.Recording.{recorded}
use Rattle.session_plan.specs.Plan.{PlanData}
use Rattle.command_files.specs.Devices.{devices_of}
use Rattle.command_files.specs.Recorded.{RefusesEvents, refusal_of}

by_error : (p : PlanData) (bytes : List ℕ) (e : LineError) → recorded (devices_of p) bytes ≡ Err e → RefusesEvents p bytes (refusal_of e)
by_error p bytes (errors.BadLine n) h = h
by_error p bytes (errors.NoMoment n) h = h
by_error p bytes (errors.TooLong n) h = h
by_error p bytes errors.Memory h = tt

-- the refusal is that of the recording, if it is that of each recording that begins with these bytes
pub refused_before : (p : PlanData) (bytes : List ℕ) (error : LineError) → ((rest : List ℕ) → recorded (devices_of p) (bytes ++ rest) ≡ Err error)
    → RefusesEvents p bytes (refusal_of error)
refused_before p bytes error h = by_error p bytes error (sym (ap (recorded (devices_of p)) (append-nil bytes)) ∙ h [])
