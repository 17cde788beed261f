use Rattle.std.proofs.Common.{◌≡◌, ◌+◌, length}
use Rattle.bits32.specs.Set.{members_below}
use Rattle.bits32.proofs.set.Bits32.nth.Given as goal

-- of the k numbers that stand before the answer, `left` are still to come
abbrev pub invariant-loop-n : goal.invariant-loop-n
invariant-loop-n l = l.k ≡ l.left + length (members_below l.n l.self)
