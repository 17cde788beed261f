-- What was written of packets so far.
use Rattle.std.specs.Prelude.{◌≡◌, ◌<◌, ◌≤◌, ℕ, Bool, true, false, List, ◌++◌, length, Some, None}
use Rattle.raw_events.specs.declared.event.RawEvent.{RawEvent}
use Rattle.touch_writer.specs.declared.want.Want.{Want}
use Rattle.touch_writer.specs.State.{IsBestChoice, packet_of, after}
use Rattle.touch_writer_cooks.specs.Reading.{lines}
use Rattle.emit_text.specs.declared.error.EmitError.{EmitError}
use Rattle.emit_text.specs.declared.error.EmitError.TheVariants.{Memory}
use Rattle.emit_text.specs.declared.packets.Packets.{Packets}
use Rattle.emit_text.specs.Motions.{Taken}
use Rattle.emit_text.specs.Packets.{path, refused}

-- the text is all of a text that has no more bytes than a recording may have, or that one has more
abbrev pub Keeps : Bool → List ℕ → List ℕ → Type 0
Keeps false text all = (text ≡ all) × (length all ≤ 33554432)
Keeps true text all = 33554432 < length all

-- the lines of these events were written, as far as a recording goes
abbrev pub Wrote : List RawEvent → Packets → Type 0
Wrote events p = Keeps p.over p.text.items (lines path events)

-- a motion
abbrev pub motion : ℕ → ℕ → List Want → Taken
motion line moment want = record { line = line; moment = moment; want = want }

-- the packet of a best choice was written after these events
pub record AddsPacket (events : List RawEvent) (line moment : ℕ) (want : List Want) (old new : Packets) : Type 0 where
  pub choice : List Bool
  pub best : IsBestChoice old.writer moment want choice
  pub taken : refused old.writer (motion line moment want) ≡ None
  pub writer : new.writer ≡ after old.writer want choice
  pub wrote : Wrote (events ++ packet_of old.writer moment want choice) new

-- the writer and the text are as before
pub record Stays (old new : Packets) : Type 0 where
  pub writer : new.writer ≡ old.writer
  pub text : new.text ≡ old.text
  pub over : new.over ≡ old.over

-- a motion was refused, and all is as before
abbrev pub RefusesPacket : ℕ → ℕ → List Want → Packets → Packets → EmitError → Type 0
RefusesPacket line moment want old new Memory = Unit {0}
RefusesPacket line moment want old new error = (refused old.writer (motion line moment want) ≡ Some error) × Stays old new
