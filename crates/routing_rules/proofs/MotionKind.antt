-- The motions that a device may make, by what they do to the ids that are down.
use Rattle.std.proofs.Common.{ℕ, Bool, true, false, ◌==◌, nat_lt, ◌≡◌, List, [], ◌∷◌, length, remove, Some, refl, ap, ◌∙◌, arith}
use Rattle.std.proofs.lemmas.Bool.{eqb-true, and_parts, ltb-true}
use Rattle.input_types.specs.declared.motion.Motion.{Motion}
use Rattle.input_types.specs.declared.motion.MotionAction.{MotionAction}
use Rattle.input_types.specs.declared.motion.MotionAction.TheVariants.{Down, Up, Move, Cancel, Outside, PointerDown, PointerUp}
use Rattle.input_types.specs.declared.pointer.Pointer.{Pointer}
use Rattle.input_types.specs.DeviceRule.{is_of_device}
use Rattle.input_types.specs.Gestures.{ids_of, same_ids, after_action, allowed}
use Rattle.routing_rules.specs.Given.{changed}
use Rattle.routing_rules.specs.Outgoing.{is_up, is_down}
use Rattle.routing_rules.proofs.Listings.{some_at, same_ids_is, length-ids_of}

-- a message that is allowed may come only where it is
pub allowed_parts : {X : Type 0} (b : Bool) (x y : X) → allowed b x ≡ Some y → (b ≡ true) × (x ≡ y)
allowed_parts true x y e = (refl, cc)
allowed_parts false x y e = cc

-- the three kinds of motions of a device, by their ids: what was down, what is down next, and the changed pointer
pub data Kind (m : Motion) (down next : List ℕ) : Type 0 where
  opens : (p : Pointer) → changed m ≡ Some p → remove (ids_of m.pointers) m.index ≡ down → ids_of m.pointers ≡ next → Kind m down next
  moves : ids_of m.pointers ≡ down → down ≡ next → is_up m.action ≡ false → is_down m.action ≡ false → Kind m down next
  closes : (p : Pointer) → changed m ≡ Some p → ids_of m.pointers ≡ down → remove (ids_of m.pointers) m.index ≡ next → is_up m.action ≡ true → Kind m down next

remove_only : (xs : List ℕ) (k : ℕ) → length xs ≡ 1 → k ≡ 0 → remove xs k ≡ []
remove_only [] k one e = absurd (omega (arith, one))
remove_only (x ∷ []) k one e = rw e refl
remove_only (x ∷ y ∷ xs) k one e = absurd (omega (arith, one))

empty_of : (xs : List ℕ) → length xs ≡ 0 → [] ≡ xs
empty_of [] e = refl
empty_of (x ∷ xs) e = absurd (omega (arith, e))

pub kind_at : (m : Motion) (down next : List ℕ) (a : MotionAction) → m.action ≡ a → is_of_device a (length m.pointers) ≡ true
    → after_action a down (ids_of m.pointers) m.index m.flags ≡ Some next → Kind m down next
kind_at m down next Down q o e =
    let ids = ids_of m.pointers in
    let x = allowed_parts _ ids next e in
    let y = and_parts (length down == 0) _ x.0 in
    let z = and_parts (length ids == 1) _ y.1 in
    let one = eqb-true (length ids) 1 z.0 in
    let index = eqb-true m.index 0 (and_parts (m.index == 0) (m.flags == 0) z.1).0 in
    let p = some_at m.pointers m.index (omega (arith, one, index)) in
    opens p.0 p.1 (remove_only ids m.index one index ∙ empty_of down (eqb-true (length down) 0 y.0)) x.1
kind_at m down next PointerDown q o e =
    let ids = ids_of m.pointers in
    let x = allowed_parts _ ids next e in
    let y = and_parts (nat_lt 0 (length down)) _ x.0 in
    let z = and_parts (nat_lt m.index (length ids)) _ y.1 in
    let p = some_at m.pointers m.index (ltb-true m.index (length ids) z.0) in
    opens p.0 p.1 (same_ids_is (remove ids m.index) down (and_parts (same_ids (remove ids m.index) down) (m.flags == 0) z.1).0) x.1
kind_at m down next Move q o e =
    let ids = ids_of m.pointers in
    let x = allowed_parts _ down next e in
    let y = and_parts (same_ids ids down) _ x.0 in
    moves (same_ids_is ids down y.0) x.1 (ap is_up q) (ap is_down q)
kind_at m down next PointerUp q o e =
    let ids = ids_of m.pointers in
    let x = allowed_parts _ (remove ids m.index) next e in
    let y = and_parts (same_ids ids down) _ x.0 in
    let z = and_parts (nat_lt 1 (length ids)) _ y.1 in
    let p = some_at m.pointers m.index (ltb-true m.index (length ids) (and_parts (nat_lt m.index (length ids)) _ z.1).0) in
    closes p.0 p.1 (same_ids_is ids down y.0) x.1 (ap is_up q)
kind_at m down next Up q o e =
    let ids = ids_of m.pointers in
    let x = allowed_parts _ [] next e in
    let y = and_parts (same_ids ids down) _ x.0 in
    let z = and_parts (length ids == 1) _ y.1 in
    let one = eqb-true (length ids) 1 z.0 in
    let index = eqb-true m.index 0 (and_parts (m.index == 0) (m.flags == 0) z.1).0 in
    let p = some_at m.pointers m.index (omega (arith, one, index)) in
    closes p.0 p.1 (same_ids_is ids down y.0) (remove_only ids m.index one index ∙ x.1) (ap is_up q)
kind_at m down next Cancel q o e =
    let ids = ids_of m.pointers in
    let x = allowed_parts _ [] next e in
    let y = and_parts (same_ids ids down) _ x.0 in
    let z = and_parts (nat_lt 0 (length ids)) _ y.1 in
    let one = length-ids_of m.pointers ∙ eqb-true (length m.pointers) 1 o in
    let index = eqb-true m.index 0 (and_parts (m.index == 0) (m.flags == 0) z.1).0 in
    let p = some_at m.pointers m.index (omega (arith, one, index)) in
    closes p.0 p.1 (same_ids_is ids down y.0) (remove_only ids m.index one index ∙ x.1) (ap is_up q)
kind_at m down next Outside q o e = cc
