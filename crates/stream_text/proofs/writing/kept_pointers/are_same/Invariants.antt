use Rattle.std.proofs.Common.{◌≡◌, ◌≤◌, length, drop}
use Rattle.stream_text.proofs.writing.kept_pointers.are_same.Given as goal

-- the last pointers are the same
abbrev pub invariant-loop-left : goal.invariant-loop-left
invariant-loop-left l = (l.left ≤ length l.list) × (drop l.left l.old ≡ drop l.left l.list)

abbrev pub decreases-loop-left : goal.decreases-loop-left
decreases-loop-left l = l.left
