-- What was marked is the first part of the list, and all of it is below the next id.
use Rattle.std.proofs.Common.{◌≡◌, ℕ, ◌<◌, true, slice_get, Some, take}
use Rattle.bits32.specs.Set.{is_in, members}
use Rattle.input_types.specs.declared.pointer.Pointer.{Pointer}
use Rattle.input_types.specs.Gestures.{ids_of}
use Rattle.pointers_down.proofs.held.listed.Given as goal

abbrev pub invariant-loop-pointer : goal.invariant-loop-pointer
invariant-loop-pointer l = record {
  so_far : members l.set ≡ ids_of (take l.pointer-index l.pointer-items);
  below : (j : ℕ) (p : Pointer) → is_in j l.set ≡ true → slice_get l.pointer-items l.pointer-index ≡ Some p → j < p.id;
}
