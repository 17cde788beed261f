use Rattle.std.proofs.Common.{◌≡◌, ◌≤◌, ◌++◌, map, take, drop, length}
use Rattle.plain_calls.specs.Told.{plain_pointer}
use Rattle.plain_calls.proofs.told.write_pointers.Given as goal

abbrev pub invariant-loop-i : goal.invariant-loop-i
invariant-loop-i l = record {
  written : l.places ≡ map plain_pointer (take l.i l.pointers) ++ drop l.i l.initial.places;
  room : length l.pointers ≤ length l.initial.places;
}
