use Rattle.std.proofs.Common.{◌≡◌, ◌+◌, ◌≤◌, ◌++◌, length, drop}
use Rattle.stream_text.proofs.writing.prepend.prepend_word.Given as goal

-- the last bytes of the word stand in front of what was there
abbrev pub invariant-loop-left : goal.invariant-loop-left
invariant-loop-left l = (l.left ≤ length l.bytes) × (drop (l.at + l.left) l.line ≡ drop l.left l.bytes ++ drop l.end l.initial.line)

abbrev pub decreases-loop-left : goal.decreases-loop-left
decreases-loop-left l = l.left
