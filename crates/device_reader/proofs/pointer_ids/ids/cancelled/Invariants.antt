use Rattle.std.specs.Prelude.{◌≡◌, ℕ, ◌||◌, drop}
use Rattle.bits32.specs.Set.{is_in}
use Rattle.device_reader.specs.PointerIds.PointerIds.{is_cancelled}
use Rattle.device_reader.proofs.pointer_ids.ids.cancelled.Given as goal

-- the ids that are marked, with the cancelled ones of the fingers that are left, are all that are cancelled
abbrev pub invariant-loop-earlier : goal.invariant-loop-earlier
invariant-loop-earlier l = (k : ℕ) → (is_in k l.ids || is_cancelled (drop l.earlier-index l.before) l.now k) ≡ is_cancelled l.before l.now k
