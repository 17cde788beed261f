use Rattle.std.proofs.Common.{◌≡◌, ◌≤◌, length, drop, map}
use Rattle.stream_text.proofs.writing.kept_pointers.have_ids.Given as goal

-- the last pointers have the same ids
abbrev pub invariant-loop-left : goal.invariant-loop-left
invariant-loop-left l = (l.left ≤ length l.list) × (map (λ p. p.id) (drop l.left l.old) ≡ map (λ p. p.id) (drop l.left l.list))

abbrev pub decreases-loop-left : goal.decreases-loop-left
decreases-loop-left l = l.left
