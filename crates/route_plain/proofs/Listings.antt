-- Lists of pointers that a set picks out.
use Rattle.std.proofs.Common.{◌≡◌, ℕ, zero, suc, ◌+◌, ◌<◌, ◌≤◌, Bool, true, false, not, ◌&&◌, ◌==◌, cond, List, [], ◌∷◌, ◌++◌, length, take, get_or, filter, refl, ap, sym, ◌∙◌, arith, subst, add-one}
use Rattle.input_types.specs.declared.pointer.Pointer.{Pointer}
use Rattle.input_types.specs.declared.motion.Motion.{Motion}
use Rattle.input_types.specs.Pointers.{IsRising, EndsBelow}
use Rattle.routing_rules.specs.Outgoing.{listing, or_else}

-- each id of a list is below a number
abbrev AllBelow : List Pointer → ℕ → Type 0
AllBelow [] n = Unit {0}
AllBelow (p ∷ ps) n = (p.id < n) × AllBelow ps n

ends_below : (ps : List Pointer) (n : ℕ) → AllBelow ps n → EndsBelow ps n
ends_below [] n a = tt
ends_below (p ∷ []) n a = a.0
ends_below (p ∷ q ∷ ps) n a = ends_below (q ∷ ps) n a.1

all_below_listing : (f : ℕ → Bool) (ps : List Pointer) (n : ℕ) → AllBelow ps n → AllBelow (listing f ps) n
all_below_listing f [] n a = tt
all_below_listing f (p ∷ ps) n a = first (f p.id) (all_below_listing f ps n a.1)
  where
    first : (b : Bool) → AllBelow (listing f ps) n → AllBelow (cond b (p ∷ listing f ps) (listing f ps)) n
    first true r = (a.0, r)
    first false r = r

-- in a list with rising ids each is below that of a later pointer
head_below : (p : Pointer) (ps : List Pointer) (k : ℕ) (d : Pointer) → IsRising (p ∷ ps) → k < length ps → p.id < (get_or ps k d).id
head_below p [] k d r lt = absurd (omega (arith, lt))
head_below p (q ∷ ps) zero d r lt = r.0
head_below p (q ∷ ps) (suc k) d r lt = omega (arith, r.0, head_below q ps k d r.1 (omega (arith, lt)))

tail_rises : (p : Pointer) (ps : List Pointer) → IsRising (p ∷ ps) → IsRising ps
tail_rises p [] r = tt
tail_rises p (q ∷ ps) r = r.1

all_below_at : (ps : List Pointer) (k : ℕ) (d : Pointer) → IsRising ps → k < length ps → AllBelow (take k ps) (get_or ps k d).id
all_below_at [] k d r lt = absurd (omega (arith, lt))
all_below_at (p ∷ ps) zero d r lt = tt
all_below_at (p ∷ ps) (suc k) d r lt =
    let lt' : k < length ps = omega (arith, lt) in
    (head_below p ps k d r lt', all_below_at ps k d (tail_rises p ps r) lt')

-- what is picked out of the pointers before one ends below it
pub listing_ends_below : (f : ℕ → Bool) (ps : List Pointer) (k : ℕ) (p : Pointer) → IsRising ps → k < length ps → p ≡ get_or ps k p
    → EndsBelow (listing f (take k ps)) p.id
listing_ends_below f ps k p r lt e =
    ends_below (listing f (take k ps)) p.id
    (all_below_listing f (take k ps) p.id (subst (λ q. AllBelow (take k ps) q.id) (sym e) (all_below_at ps k p r lt)))

-- a listing of the first k pointers has at most k
pub length-listing_take : (f : ℕ → Bool) (ps : List Pointer) (k : ℕ) → length (listing f (take k ps)) ≤ k
length-listing_take f [] k = short k
  where
    short : (k : ℕ) → length (listing f (take k [])) ≤ k
    short zero = omega arith
    short (suc k) = omega arith
length-listing_take f (p ∷ ps) zero = omega arith
length-listing_take f (p ∷ ps) (suc k) = first (f p.id) (length-listing_take f ps k)
  where
    first : (b : Bool) → length (listing f (take k ps)) ≤ k → length (cond b (p ∷ listing f (take k ps)) (listing f (take k ps))) ≤ suc k
    first true r = omega (arith, r)
    first false r = omega (arith, r)

-- one more pointer
pub listing_more : (f : ℕ → Bool) (ps : List Pointer) (k : ℕ) (p : Pointer) → k < length ps → p ≡ get_or ps k p
    → listing f (take (k + 1) ps) ≡ (listing f (take k ps) ++ cond (f p.id) (p ∷ []) [])
listing_more f ps k p lt e = ap (listing f) (take-suc-get ps k p lt e) ∙ filter-append f (take k ps) p
  where
    take-suc-get : (ps : List Pointer) (k : ℕ) (p : Pointer) → k < length ps → p ≡ get_or ps k p → take (k + 1) ps ≡ take k ps ++ p ∷ []
    take-suc-get ps k p lt e = rw (add-one) (go ps k lt e)
      where
        go : (ps : List Pointer) (k : ℕ) → k < length ps → p ≡ get_or ps k p → take (suc k) ps ≡ take k ps ++ p ∷ []
        go [] k lt e = absurd (omega (arith, lt))
        go (q ∷ ps) zero lt e = ap (λ x. x ∷ []) (sym e)
        go (q ∷ ps) (suc k) lt e = ap (λ xs. q ∷ xs) (go ps k (omega (arith, lt)) e)

    filter-append : (f : ℕ → Bool) (xs : List Pointer) (p : Pointer) → listing f (xs ++ p ∷ []) ≡ listing f xs ++ cond (f p.id) (p ∷ []) []
    filter-append f [] p = refl
    filter-append f (x ∷ xs) p = first (f x.id) (filter-append f xs p)
      where
        first : (b : Bool) → listing f (xs ++ p ∷ []) ≡ listing f xs ++ cond (f p.id) (p ∷ []) []
            → cond b (x ∷ listing f (xs ++ p ∷ [])) (listing f (xs ++ p ∷ [])) ≡ cond b (x ∷ listing f xs) (listing f xs) ++ cond (f p.id) (p ∷ []) []
        first true r = ap (λ ys. x ∷ ys) r
        first false r = r

-- one id less
pub listing-less : (f : ℕ → Bool) (i : ℕ) (ps : List Pointer)
    → filter (λ q. not (q.id == i)) (listing f ps) ≡ listing (λ j. f j && not (j == i)) ps
listing-less f i [] = refl
listing-less f i (p ∷ ps) = first (f p.id) (p.id == i) (listing-less f i ps)
  where
    first : (b c : Bool) → filter (λ q. not (q.id == i)) (listing f ps) ≡ listing (λ j. f j && not (j == i)) ps
        → filter (λ q. not (q.id == i)) (cond b (p ∷ listing f ps) (listing f ps))
        ≡ cond (b && not (p.id == i)) (p ∷ listing (λ j. f j && not (j == i)) ps) (listing (λ j. f j && not (j == i)) ps)
    first false c e = e
    first true c e = λ k. cond (not (p.id == i)) (p ∷ e k) (e k)

pub or_else-nil : (xs : List Motion) → or_else xs [] ≡ xs
or_else-nil [] = refl
or_else-nil (x ∷ xs) = refl
