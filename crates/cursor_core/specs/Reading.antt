-- A reader of motions after a list of events, newest first.
use Rattle.std.specs.Prelude.{◌≡◌, ℕ, pos, Bool, false, ◌||◌, List}
use Rattle.raw_events.specs.declared.event.RawEvent.{RawEvent}
use Rattle.cursor_core.specs.declared.motion.MotionReader.{MotionReader}
use Rattle.cursor_core.specs.Packets.{has_motion, is_rel, latest, packet, sum_of, summed}
use Rattle.raw_events.specs.Packets.{is_void}

-- a reader stands for these events: it knows whether the next events are void, the sums of the packet that has begun,
-- and the latest moment of a packet
pub record ReaderStandsFor (past : List RawEvent) (r : MotionReader) : Type 0 where
  pub void_is : r.void ≡ is_void past
  pub moved_is : r.moved ≡ has_motion (packet past)
  pub x_is : r.dx ≡ sum_of 0 (packet past)
  pub y_is : r.dy ≡ sum_of 1 (packet past)
  pub latest_is : r.latest ≡ latest past

-- a reader before the first event of a packet, or before events that are void
abbrev pub begun : Bool → ℕ → MotionReader
begun void latest = record { void = void; moved = false; dx = pos 0; dy = pos 0; latest = latest }

-- a reader after one more event of a packet
abbrev pub grown : MotionReader → RawEvent → MotionReader
grown r e = record { void = r.void; moved = is_rel 0 e || (is_rel 1 e || r.moved); dx = summed 0 e r.dx; dy = summed 1 e r.dy; latest = r.latest }
