use Rattle.std.specs.Prelude.{◌≡◌, ℕ, ◌-◌, ◌<◌, ◌≤◌}
use Rattle.bits32.specs.Set.{is_in}
use Rattle.touch_writer.specs.Places.{is_held}
use Rattle.touch_writer.specs.Refusal.{free_ids, is_assignable}
use Rattle.touch_writer.proofs.assignable.assignable.Given as goal

-- the ids below this one are settled, and the others stand as they are held
abbrev pub invariant-loop-id : goal.invariant-loop-id
invariant-loop-id l = record {
  left : l.left ≡ l.count - free_ids l.id l.places;
  settled : (i : ℕ) → i < l.id → is_in i l.ids ≡ is_assignable l.places l.count i;
  ahead : (i : ℕ) → l.id ≤ i → is_in i l.ids ≡ is_held i l.places;
}
