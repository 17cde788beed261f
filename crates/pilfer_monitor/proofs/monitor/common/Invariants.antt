use Rattle.std.proofs.Common.{ℕ, ◌≡◌, ◌&&◌, nat_lt}
use Rattle.bits32.specs.Set.{is_in}
use Rattle.pilfer_monitor.proofs.monitor.common.Given as goal

-- of the numbers below it, those that are in both sets
abbrev pub invariant-loop-id : goal.invariant-loop-id
invariant-loop-id l = (i : ℕ) → is_in i l.both ≡ (nat_lt i l.id && (is_in i l.a && is_in i l.b))
