use Rattle.std.proofs.Common.{◌≡◌, ◌++◌, true, map}
use Rattle.std.specs.BTreeMap.{keys}
use Rattle.std.specs.List.{list_all}
use Rattle.gesture_verifier.specs.Held.{key_at}
use Rattle.gesture_verifier.specs.Told.{is_place}
use Rattle.gesture_verifier.proofs.held.held_keys.Given as goal

-- the keys so far and the remaining ones are all, and the remaining ones are places
abbrev pub invariant-loop-place : goal.invariant-loop-place
invariant-loop-place l =
    (l.keys.items ++ map key_at l.place-iterator ≡ map key_at (keys l.table)) × (list_all is_place l.place-iterator ≡ true)
