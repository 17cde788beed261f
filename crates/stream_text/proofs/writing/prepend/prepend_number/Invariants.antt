use Rattle.std.proofs.Common.{◌≡◌, ◌+◌, ◌≤◌, ◌++◌, length, drop}
use Rattle.std.specs.Fmt.{decimal}
use Rattle.stream_text.proofs.writing.prepend.prepend_number.Given as goal

-- the digits of what is left, in front of those that are put down, are the digits of the number
abbrev pub invariant-loop-left : goal.invariant-loop-left
invariant-loop-left l =
    (l.at ≤ l.end) × (l.at + length (decimal l.number) ≡ l.end + length (decimal l.left))
    × (decimal l.left ++ drop l.at l.line ≡ decimal l.number ++ drop l.end l.initial.line)

abbrev pub decreases-loop-left : goal.decreases-loop-left
decreases-loop-left l = l.left
