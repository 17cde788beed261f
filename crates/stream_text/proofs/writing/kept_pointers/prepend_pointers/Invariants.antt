use Rattle.std.proofs.Common.{◌≡◌, ◌+◌, ◌*◌, ◌≤◌, ◌++◌, length, drop}
use Rattle.stream_text.specs.Spelling.{pointers}
use Rattle.stream_text.proofs.writing.kept_pointers.prepend_pointers.Given as goal

-- the last pointers stand in front of what was there, and there is room for those that are left
abbrev pub invariant-loop-left : goal.invariant-loop-left
invariant-loop-left l =
    (l.left ≤ length l.list) × (66 * l.left + 14 ≤ l.at) × (l.at ≤ l.end) × (l.end + 66 * l.left ≤ l.at + 66 * length l.list)
    × (drop l.at l.line ≡ pointers (drop l.left l.list) ++ drop l.end l.initial.line)

abbrev pub decreases-loop-left : goal.decreases-loop-left
decreases-loop-left l = l.left
