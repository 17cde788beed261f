use Rattle.std.proofs.Common.{◌≡◌, ℕ, ◌+◌, ◌≤◌, length}
use Rattle.input_types.specs.Pointers.{EndsBelow}
use Rattle.stream_text.specs.MessageLine.{pointers_at}
use Rattle.stream_text.proofs.Pointers.{in_front}
use Rattle.stream_text.proofs.reading.motion.pointers.Given as goal

abbrev pub invariant-pointers : goal.invariant-pointers
invariant-pointers l = record {
  read : in_front l.list (pointers_at l.room l.least l.rest) ≡ pointers_at 16 0 l.bytes;
  count : length l.list + l.room ≡ 16;
  ends : (n : ℕ) → l.least ≤ n → EndsBelow l.list n;
  least : l.least ≤ 32;
}

abbrev pub decreases-pointers : goal.decreases-pointers
decreases-pointers l = l.room
