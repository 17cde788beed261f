-- How files were read in a call, one after another, as the log of the readings says.
use Rattle.std.specs.Prelude.{◌≡◌, ◌≢◌, ℕ, ◌+◌, ◌≤◌, List, [], ◌∷◌, ◌++◌, length, Option, Some, None, Result, Err, ⊤, ◌⊎◌}
use Rattle.outside_io.specs.Trace.{Reading, at_end, failed, going}
use Rattle.outside_io.specs.Outside.{Entry, Rose, bytes_of}
use Rattle.command_files.specs.declared.refusal.Refusal.{Refusal}
use Rattle.command_files.specs.declared.refusal.Refusal.TheVariants.{ReadFailed, NoMemory}
use Rattle.command_files.specs.Judged.{FileKind, IfTold, IsEnough, judged_at}
use Rattle.command_files.specs.Refused.{Refused}
use Rattle.command_files.specs.RefusalView.{refusal_view}

-- A reading agrees with the bytes of its file: what it gave is the front of them, and is all of them if the end was
-- reported. The opening of a file that does not exist failed.
abbrev pub Agrees : Option (List ℕ) → Reading → Type 0
Agrees None r = (r.given ≡ []) × (r.stage ≡ failed)
Agrees (Some bytes) r = (rest : List ℕ) × (bytes ≡ r.given ++ rest) × (r.stage ≡ at_end → rest ≡ [])

-- one reading was logged: of this name, of at most one byte more than the limit, and it agrees with what the files hold, if that is known
pub record OneRead (told : Option (List Entry)) (before now : List Reading) (name : List ℕ) (limit : ℕ) (Holds : Reading → Type 0) : Type 0 where
  pub reading : Reading
  pub grown : now ≡ before ++ reading ∷ []
  pub named : reading.name ≡ name
  pub bound : length reading.given ≤ limit + 1
  pub agrees : IfTold told (λ entries. Agrees (bytes_of entries reading.name) reading)
  pub holds : Holds reading

-- no reading was logged, or one
abbrev pub MayRead : Option (List Entry) → List Reading → List Reading → List ℕ → ℕ → Type 0
MayRead told before now name limit = (now ≡ before) ⊎ OneRead told before now name limit (λ r. ⊤)

-- a file was read to its end, and these are its bytes
abbrev pub IsWhole : Option (List Entry) → List Reading → List Reading → List ℕ → ℕ → List ℕ → Type 0
IsWhole told before now name limit bytes =
    OneRead told before now name limit (λ r. (r.stage ≡ at_end) × ((r.given ≡ bytes) × (length bytes ≤ limit)))

-- a file gave one byte more than the limit
abbrev pub IsCut : Option (List Entry) → List Reading → List Reading → List ℕ → ℕ → Type 0
IsCut told before now name limit = OneRead told before now name limit (λ r. (r.stage ≡ going) × (length r.given ≡ limit + 1))

-- a file of this kind was read, and by that reading it is judged so
abbrev pub IsRead : {A : Type 0} → Option (List Entry) → List Reading → List Reading → List ℕ → FileKind A → Result A Refused → Type 0
IsRead told before now name kind judgement =
    OneRead told before now name kind.limit (λ r. IsEnough kind.limit r × (judged_at kind r.stage r.given ≡ judgement))

-- why a file is not accepted: its opening or a read failed, memory ran out, or it is refused by what it gave
abbrev pub RefusesFile : {A : Type 0} → Option (List Entry) → List Reading → List Reading → List ℕ → FileKind A → ℕ → ℕ → Refusal → Type 0
RefusesFile told before now name kind faults_before faults_now (ReadFailed file) =
    Rose faults_before faults_now × IsRead told before now name kind (Err (refusal_view (ReadFailed file)))
RefusesFile told before now name kind faults_before faults_now NoMemory = MayRead told before now name kind.limit
RefusesFile told before now name kind faults_before faults_now r = IsRead told before now name kind (Err (refusal_view r))

-- Readings are of these files in order, each of at most one byte more than its limit, and none follows one that failed.
-- Files at the end may be missing.
abbrev pub InTurn : List (List ℕ × ℕ) → List Reading → Type 0
InTurn files [] = ⊤
InTurn [] (r ∷ rs) = ⊥
InTurn (file ∷ files) (r ∷ rs) = (r.name ≡ file.0) × ((length r.given ≤ file.1 + 1) × ((r.stage ≡ failed → rs ≡ []) × InTurn files rs))

-- no opening and no read failed
abbrev pub NoneFailed : List Reading → Type 0
NoneFailed [] = ⊤
NoneFailed (r ∷ rs) = (r.stage ≢ failed) × NoneFailed rs

-- each reading agrees with its file
abbrev pub AllAgree : List Entry → List Reading → Type 0
AllAgree entries [] = ⊤
AllAgree entries (r ∷ rs) = Agrees (bytes_of entries r.name) r × AllAgree entries rs

-- The log grew by readings of these files, in order, each once and within its limit. They agree with the files if
-- these are known.
pub record Logged (told : Option (List Entry)) (before now : List Reading) (files : List (List ℕ × ℕ)) (Holds : List Reading → Type 0) : Type 0 where
  pub readings : List Reading
  pub grown : now ≡ before ++ readings
  pub in_turn : InTurn files readings
  pub agree : IfTold told (λ entries. AllAgree entries readings)
  pub holds : Holds readings

-- why a command has no answer, or which refusal it has: a file could not be read, memory ran out, or this is the answer
abbrev pub RefusesBy : (Refused → Type 0) → Type 0 → ℕ → ℕ → Refusal → Type 0
RefusesBy Comes Read faults_before faults_now (ReadFailed file) = Rose faults_before faults_now × Comes (refusal_view (ReadFailed file))
RefusesBy Comes Read faults_before faults_now NoMemory = Read
RefusesBy Comes Read faults_before faults_now r = Comes (refusal_view r)
