use Rattle.std.proofs.Common.{◌≡◌, ◌≤◌, ℕ, ◌+◌, ◌*◌, List, Result, length}
use Rattle.raw_events.specs.declared.event.RawEvent.{RawEvent}
use Rattle.emit_text.specs.declared.error.EmitError.{EmitError}
use Rattle.emit_text.specs.Emitted.{IsEmitted}
use Rattle.emit_text.specs.Reading.{IsSpentAt, RestOfFile}
use Rattle.emit_text.specs.Written.{Wrote}
use Rattle.emit_text.proofs.text.emit_text.Given as goal

-- The answer for the remaining lines is the answer for the file. Each line has a byte, and takes at most 16 tracking
-- ids.
abbrev pub invariant-lines : goal.invariant-lines
invariant-lines l = record {
  known : (events : List RawEvent) × Wrote events l.emission.packets
      × ((answer : Result (List ℕ) EmitError) → RestOfFile l.emission events l.lines.lines answer → IsEmitted l.fn.bytes l.fn.channel l.fn.device answer);
  slots : length l.emission.packets.writer.places ≡ 16;
  used : l.emission.packets.writer.used + 16 * l.lines.left ≤ 16 * (length l.fn.bytes + 1);
  spent : IsSpentAt l.emission.stage l.emission.packets.writer;
}

abbrev pub decreases-lines : goal.decreases-lines
decreases-lines l = l.lines.left
