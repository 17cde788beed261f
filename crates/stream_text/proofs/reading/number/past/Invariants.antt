use Rattle.std.proofs.Common.{◌≡◌, drop}
use Rattle.stream_text.specs.Number.{after}
use Rattle.stream_text.proofs.reading.number.past.Given as goal

abbrev pub invariant-loop-w : goal.invariant-loop-w
invariant-loop-w l = after (drop l.w-index l.w-items) l.rest ≡ after l.word l.bytes
