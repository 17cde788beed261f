use Rattle.std.proofs.Common.{ℕ, ◌≡◌, ◌&&◌, nat_lt, not}
use Rattle.bits32.specs.Set.{is_in}
use Rattle.why_lines.proofs.rows.less.Given as goal

-- of the numbers that are passed those of the other set are gone
abbrev pub invariant-loop-id : goal.invariant-loop-id
invariant-loop-id l = (i : ℕ) → is_in i l.rest ≡ (is_in i l.fn.set && not (nat_lt i l.id && is_in i l.other))
