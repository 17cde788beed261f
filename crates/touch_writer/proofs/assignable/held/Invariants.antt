use Rattle.std.specs.Prelude.{◌≡◌, ℕ, ◌||◌, drop}
use Rattle.bits32.specs.Set.{is_in}
use Rattle.touch_writer.specs.Places.{is_held}
use Rattle.touch_writer.proofs.assignable.held.Given as goal

-- the ids that are marked, with those of the slots that are left, are the ids of all
abbrev pub invariant-loop-place : goal.invariant-loop-place
invariant-loop-place l = (i : ℕ) → (is_in i l.ids || is_held i (drop l.place-index l.places)) ≡ is_held i l.places
