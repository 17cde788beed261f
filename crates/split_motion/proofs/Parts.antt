-- Lists with rising ids that a set picks out.
use Rattle.std.proofs.Common.{◌≡◌, ℕ, zero, suc, ◌<◌, ◌≤◌, Bool, true, false, cond, List, [], ◌∷◌, length, take, get_or, sym, subst, arith}
use Rattle.input_types.specs.declared.pointer.Pointer.{Pointer}
use Rattle.input_types.specs.Pointers.{IsRising, EndsBelow}
use Rattle.routing_rules.specs.Outgoing.{listing}

-- each id of a list is below a number
abbrev pub AllBelow : List Pointer → ℕ → Type 0
AllBelow [] n = Unit {0}
AllBelow (p ∷ ps) n = (p.id < n) × AllBelow ps n

pub ends_below : (ps : List Pointer) (n : ℕ) → AllBelow ps n → EndsBelow ps n
ends_below [] n a = tt
ends_below (p ∷ []) n a = a.0
ends_below (p ∷ q ∷ ps) n a = ends_below (q ∷ ps) n a.1

below_in_part : (f : ℕ → Bool) (ps : List Pointer) (n : ℕ) → AllBelow ps n → AllBelow (listing f ps) n
below_in_part f [] n a = tt
below_in_part f (p ∷ ps) n a = by_test (f p.id) (below_in_part f ps n a.1)
  where
    by_test : (b : Bool) → AllBelow (listing f ps) n → AllBelow (cond b (p ∷ listing f ps) (listing f ps)) n
    by_test true r = (a.0, r)
    by_test false r = r

-- in a list with rising ids each is below that of a later pointer
first_below : (p : Pointer) (ps : List Pointer) (k : ℕ) (d : Pointer) → IsRising (p ∷ ps) → k < length ps → p.id < (get_or ps k d).id
first_below p [] k d r lt = absurd (omega (arith, lt))
first_below p (q ∷ ps) zero d r lt = r.0
first_below p (q ∷ ps) (suc k) d r lt = omega (arith, r.0, first_below q ps k d r.1 (omega (arith, lt)))

pub rest_rises : (p : Pointer) (ps : List Pointer) → IsRising (p ∷ ps) → IsRising ps
rest_rises p [] r = tt
rest_rises p (q ∷ ps) r = r.1

before_below : (ps : List Pointer) (k : ℕ) (d : Pointer) → IsRising ps → k < length ps → AllBelow (take k ps) (get_or ps k d).id
before_below [] k d r lt = absurd (omega (arith, lt))
before_below (p ∷ ps) zero d r lt = tt
before_below (p ∷ ps) (suc k) d r lt =
    let low : k < length ps = omega (arith, lt) in
    (first_below p ps k d r low, before_below ps k d (rest_rises p ps r) low)

-- what a set picks out of the pointers before one ends below it
pub listing_ends_below : (f : ℕ → Bool) (ps : List Pointer) (k : ℕ) (p : Pointer) → IsRising ps → k < length ps → p ≡ get_or ps k p
    → EndsBelow (listing f (take k ps)) p.id
listing_ends_below f ps k p r lt e =
    ends_below (listing f (take k ps)) p.id
    (below_in_part f (take k ps) p.id (subst (λ q. AllBelow (take k ps) q.id) (sym e) (before_below ps k p r lt)))

-- and has no more pointers than these
pub listing_is_short : (f : ℕ → Bool) (ps : List Pointer) (k : ℕ) → length (listing f (take k ps)) ≤ k
listing_is_short f [] k = none k
  where
    none : (k : ℕ) → length (listing f (take k [])) ≤ k
    none zero = omega arith
    none (suc k) = omega arith
listing_is_short f (p ∷ ps) zero = omega arith
listing_is_short f (p ∷ ps) (suc k) = by_test (f p.id) (listing_is_short f ps k)
  where
    by_test : (b : Bool) → length (listing f (take k ps)) ≤ k → length (cond b (p ∷ listing f (take k ps)) (listing f (take k ps))) ≤ suc k
    by_test true r = omega (arith, r)
    by_test false r = omega (arith, r)
