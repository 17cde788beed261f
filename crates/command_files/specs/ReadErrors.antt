-- Why a file was not read.
use Rattle.std.specs.Prelude.{◌≡◌, ℕ, ◌≤◌, List, length, Option}
use Rattle.outside_io.specs.Trace.{Reading, at_end, failed}
use Rattle.outside_io.specs.Outside.{Entry, Rose}
use Rattle.outside_io.specs.declared.outside.SourceRefused.{SourceRefused}
use Rattle.outside_io.specs.declared.outside.SourceRefused.TheVariants as refused
use Rattle.command_files.specs.Logged.{IsCut, MayRead, OneRead}
use Rattle.command_files.specs.declared.files.ReadError.{ReadError}
use Rattle.command_files.specs.declared.files.ReadError.TheVariants.{Failed, Memory, TooLong}
use Rattle.command_files.specs.declared.refusal.Refusal.{Refusal}
use Rattle.command_files.specs.declared.refusal.Refusal.TheVariants as refusal
use Rattle.command_files.specs.declared.refusal.Input.{Input}
use Rattle.command_files.specs.RefusalView.{subject_of}

-- a source that was refused
abbrev pub read_error_of : SourceRefused → ReadError
read_error_of refused.Failed = Failed
read_error_of refused.Memory = Memory

-- the refusal of a file that was not read to its end
abbrev pub refusal_of_read : Input → ReadError → Refusal
refusal_of_read file Failed = refusal.ReadFailed file
refusal_of_read file Memory = refusal.NoMemory
refusal_of_read file TooLong = refusal.TooLong (subject_of file)

-- why a file was not read to its end: its opening or a read failed, out of memory, or it gave one byte more than its limit
abbrev pub StopsReading : Option (List Entry) → List Reading → List Reading → List ℕ → ℕ → ℕ → ℕ → ReadError → Type 0
StopsReading told before now name limit faults_before faults_now Failed =
    Rose faults_before faults_now × OneRead told before now name limit (λ r. r.stage ≡ failed)
StopsReading told before now name limit faults_before faults_now Memory = MayRead told before now name limit
StopsReading told before now name limit faults_before faults_now TooLong = IsCut told before now name limit

-- a file was read to its end, it has no more bytes than the limit, and this was done with them
abbrev pub WithFile : Option (List Entry) → List Reading → List Reading → List ℕ → ℕ → (List ℕ → Type 0) → Type 0
WithFile told before now name limit Done =
    OneRead told before now name limit (λ r. (r.stage ≡ at_end) × ((length r.given ≤ limit) × Done r.given))
