-- A packet with the pointers of the packet before is one Move.
use Rattle.std.specs.Prelude.{◌≡◌, ℕ, ◌&&◌, Bool, true, nat_eq, List, [], ◌∷◌, map}
use Rattle.std.proofs.Common.{sym, ◌∙◌, ap, refl, eq-eqb}
use Rattle.std.proofs.lemmas.Bool.{and_from}
use Rattle.input_types.specs.declared.pointer.Pointer.{Pointer}
use Rattle.input_types.specs.Gestures.{ids_of, same_ids}
use Rattle.device_reader.specs.declared.pointer_ids.assigned.Held.{Held}
use Rattle.device_reader.specs.TouchMapper.Cooking.{Cooking}
use Rattle.device_reader.specs.TouchMapper.Gesture.{held_ids, placed, placed_all, gesture, move_of}

ids_placed : (c : Cooking) (hs : List Held) → ids_of (placed_all c hs) ≡ held_ids hs
ids_placed c [] = refl
ids_placed c (h ∷ hs) = ap (λ ns. h.id ∷ ns) (ids_placed c hs)

same_self : (ns : List ℕ) → same_ids ns ns ≡ true
same_self [] = refl
same_self (n ∷ ns) = and_from _ _ (eq-eqb n n refl) (same_self ns)

same_move : (d : ℕ) (f : ℕ → Bool) (last now : List Pointer) → same_ids (ids_of last) (ids_of now) ≡ true → gesture d f last now ≡ move_of d now
same_move d f last now h = rw h refl

-- pointers that keep their ids make one Move, where there are some
pub one_move : (d : ℕ) (f : ℕ → Bool) (c : Cooking) (before now : List Held) → held_ids before ≡ held_ids now
    → gesture d f (placed_all c before) (placed_all c now) ≡ move_of d (placed_all c now)
one_move d f c before now same =
    same_move d f (placed_all c before) (placed_all c now)
    (ap (λ ns. same_ids ns (ids_of (placed_all c now))) (ids_placed c before)
    ∙ ap (λ ns. same_ids (held_ids before) ns) (ids_placed c now)
    ∙ ap (λ ns. same_ids ns (held_ids now)) same
    ∙ same_self (held_ids now))
