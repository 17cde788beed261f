-- The answer for the remaining lines of a file.
use Rattle.std.specs.Prelude.{◌≡◌, ◌≤◌, ◌<◌, ℕ, ◌+◌, ◌==◌, Bool, false, if◌then◌else◌, List, [], ◌∷◌, length, Option, Some, None, Result, Ok, Err}
use Rattle.input_types.specs.declared.message.Message.{Message as Told}
use Rattle.raw_events.specs.declared.event.RawEvent.{RawEvent}
use Rattle.stream_judge.specs.declared.error.FileError.{FileError}
use Rattle.stream_text.specs.declared.stream_line.StreamLine.{StreamLine}
use Rattle.stream_text.specs.declared.stream_line.StreamLine.TheVariants.{Channel, Message}
use Rattle.stream_text.specs.StreamFile.{Event}
use Rattle.touch_writer.specs.State.{State}
use Rattle.emit_text.specs.declared.emission.Emission.{Emission}
use Rattle.emit_text.specs.declared.emission.Stage.{Stage}
use Rattle.emit_text.specs.declared.emission.Stage.TheVariants.{Before, Open, Behind, Refused}
use Rattle.emit_text.specs.declared.error.EmitError.{EmitError}
use Rattle.emit_text.specs.declared.packets.Packets.{Packets}
use Rattle.emit_text.specs.declared.error.EmitError.TheVariants.{NoChannel, Spent, Memory}
use Rattle.emit_text.specs.Motions.{Taken, in_front, taken_at}
use Rattle.emit_text.specs.Packets.{Emits}
use Rattle.emit_text.specs.Refusals.{file_refusal}
use Rattle.emit_text.specs.Written.{Stays, Wrote}

-- a line begins the section of a channel
abbrev pub begins : ℕ → StreamLine → Bool
begins channel (Channel id) = id == channel
begins channel _ = false

-- the motion of a line in front of those after it; a section ends at a line that is no message
abbrev pub motion_before : ℕ → ℕ → StreamLine → List Taken → List Taken
motion_before device n (Message m) ts = in_front (taken_at device n m) ts
motion_before device n _ ts = []

-- the motions of a device that are written, of the lines of a section
abbrev pub motions_at : ℕ → List Event → List Taken
motions_at device [] = []
motions_at device (e ∷ es) = motion_before device e.0 e.1 (motions_at device es)

-- those of the first section of a channel
abbrev pub motions_in : ℕ → ℕ → List Event → Option (List Taken)
motions_in channel device [] = None
motions_in channel device (e ∷ es) = if begins channel e.1 then Some (motions_at device es) else motions_in channel device es

-- the answer for the motions of a section, if there is one
abbrev pub IsFrom : State → List RawEvent → Option (List Taken) → Result (List ℕ) EmitError → Type 0
IsFrom s events None answer = answer ≡ Err NoChannel
IsFrom s events (Some ts) answer = Emits s events ts answer

-- the answer for the remaining lines at a reader's position, from a writer on and after these events
abbrev pub RestAt : Stage → ℕ → ℕ → State → List RawEvent → List Event → Result (List ℕ) EmitError → Type 0
RestAt Before channel device s events es answer = IsFrom s events (motions_in channel device es) answer
RestAt Open channel device s events es answer = Emits s events (motions_at device es) answer
RestAt Behind channel device s events es answer = Emits s events [] answer
RestAt (Refused error) channel device s events es answer = answer ≡ Err error

-- the answer if these lines remain
abbrev pub Rest : Emission → List RawEvent → List Event → Result (List ℕ) EmitError → Type 0
Rest e events es answer = RestAt e.stage e.channel e.device e.packets.writer events es answer

-- the same, if the file may be refused for the remaining lines
abbrev pub RestOfFile : Emission → List RawEvent → Result (List Event) FileError → Result (List ℕ) EmitError → Type 0
RestOfFile e events (Ok es) answer = Rest e events es answer
RestOfFile e events (Err error) answer = answer ≡ Err (file_refusal error)

-- no tracking ids are left for a motion that is refused so
abbrev pub IsSpent : EmitError → State → Type 0
IsSpent (Spent line) s = 2147483647 < s.used + 16
IsSpent _ s = Unit {0}

-- if motions are refused already, their refusal is that of a writer without tracking ids
abbrev pub IsSpentAt : Stage → State → Type 0
IsSpentAt (Refused error) s = IsSpent error s
IsSpentAt _ s = Unit {0}

-- a writer has its 16 slots still, and used at most 16 tracking ids more
pub record Spends (old new : State) : Type 0 where
  pub slots : length new.places ≡ length old.places
  pub used : new.used ≤ old.used + 16

-- After one more line, the answer for the remaining lines is the answer before it.
pub record Leads (events : List RawEvent) (line : ℕ) (says : StreamLine) (old new : Emission) : Type 0 where
  pub behind : List RawEvent
  pub wrote : Wrote behind new.packets
  pub rest : (es : List Event) (answer : Result (List ℕ) EmitError) → Rest new behind es answer → Rest old events ((line, says) ∷ es) answer
  pub spends : Spends old.packets.writer new.packets.writer
  pub spent : length old.packets.writer.places ≡ 16 → IsSpentAt old.stage old.packets.writer → IsSpentAt new.stage new.packets.writer

-- what a section's message adds: the packet of a motion that is written, or nothing
pub record Adds (events : List RawEvent) (line : ℕ) (m : Told) (device : ℕ) (old new : State) (behind : List RawEvent) : Type 0 where
  pub rest : (ts : List Taken) (answer : Result (List ℕ) EmitError) → Emits new behind ts answer → Emits old events (in_front (taken_at device line m) ts) answer
  pub spends : Spends old new

-- a message's motion is refused
pub record IsRefused (line : ℕ) (m : Told) (device : ℕ) (s : State) (error : EmitError) : Type 0 where
  pub rest : (events : List RawEvent) (ts : List Taken) → Emits s events (in_front (taken_at device line m) ts) (Err error)
  pub spent : length s.places ≡ 16 → IsSpent error s

-- a message is refused so, and all stays; or memory ran out
abbrev pub RefusesMessage : ℕ → Told → ℕ → Packets → Packets → EmitError → Type 0
RefusesMessage line m device old new Memory = Unit {0}
RefusesMessage line m device old new error = Stays old new × IsRefused line m device old.writer error
