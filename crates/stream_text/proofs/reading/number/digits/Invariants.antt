use Rattle.std.proofs.Common.{◌≡◌, length}
use Rattle.stream_text.specs.Number.{digits_from}
use Rattle.stream_text.proofs.reading.number.digits.Given as goal

abbrev pub invariant-loop-rest : goal.invariant-loop-rest
invariant-loop-rest l = digits_from l.n l.rest ≡ digits_from l.first l.bytes

abbrev pub decreases-loop-rest : goal.decreases-loop-rest
decreases-loop-rest l = length l.rest
