use Rattle.std.specs.Prelude.{◌≡◌, ◌≤◌, length}
use Rattle.device_reader.proofs.PointerIds.Places.{LeadsFrom}
use Rattle.device_reader.proofs.pointer_ids.ids.places_of.Given as goal

-- the table leads to the fingers behind those that are left
abbrev pub invariant-loop-left : goal.invariant-loop-left
invariant-loop-left l = record {
  len : length l.places ≡ 32;
  left : l.left ≤ length l.named;
  leads : LeadsFrom l.left l.places l.named;
}

-- each step leaves one finger fewer
abbrev pub decreases-loop-left : goal.decreases-loop-left
decreases-loop-left l = l.left
