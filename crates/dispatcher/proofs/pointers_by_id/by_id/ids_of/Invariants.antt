use Rattle.std.proofs.Common.{ℕ, ◌≡◌, ◌||◌, drop}
use Rattle.bits32.specs.Set.{is_in}
use Rattle.routing_rules.proofs.Listings.{has_id}
use Rattle.dispatcher.proofs.pointers_by_id.by_id.ids_of.Given as goal

-- the ids so far, and those of the pointers that are left, are all
abbrev pub invariant-loop-pointer : goal.invariant-loop-pointer
invariant-loop-pointer l = (i : ℕ) → (is_in i l.ids || has_id i (drop l.pointer-index l.pointer-items)) ≡ has_id i l.pointer-items
