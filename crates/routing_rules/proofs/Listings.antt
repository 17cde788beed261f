-- Lists of pointers with different ids, and the part of them that is in a set.
use Rattle.std.proofs.Common.{ℕ, zero, suc, Bool, true, false, not, cond, ◌&&◌, ◌||◌, ◌==◌, ◌≡◌, ◌<◌, ◌≤◌, List, [], ◌∷◌, filter, length, remove, Some, slice_get, refl, sym, ap, ◌∙◌, subst, inl, inr, arith}
use Rattle.std.specs.List.{list_any}
use Rattle.std.proofs.lemmas.Bool.{eqb-true, eq-eqb, ne_eqb, cases_Bool, both_ways, true≢false, or_cases, or_left, or_right, and_parts, and_from, and_right}
use Rattle.std.proofs.lemmas.Map.Views.{any-filter_same}
use Rattle.input_types.specs.declared.pointer.Pointer.{Pointer}
use Rattle.input_types.specs.Gestures.{ids_of, same_ids}
use Rattle.input_types.specs.Pointers.{IsRising}
use Rattle.routing_rules.specs.Outgoing.{listing, index_in}

-- a pointer of the list has this id
abbrev pub has_id : ℕ → List Pointer → Bool
has_id i ps = list_any (λ p. p.id == i) ps

-- no two pointers of the list have one id
abbrev pub Apart : List Pointer → Type 0
Apart [] = Unit {0}
Apart (p ∷ ps) = (has_id p.id ps ≡ false) × Apart ps

-- ids that rise differ
above : (i : ℕ) (p : Pointer) (ps : List Pointer) → i < p.id → IsRising (p ∷ ps) → has_id i (p ∷ ps) ≡ false
above i p [] lt r = rw (ne_eqb p.id i (λ e. absurd (omega arith))) refl
above i p (q ∷ ps) lt r = rw (ne_eqb p.id i (λ e. absurd (omega arith))) (above i q ps (omega (arith, lt, r.0)) r.1)

pub apart_rising : (ps : List Pointer) → IsRising ps → Apart ps
apart_rising [] r = tt
apart_rising (p ∷ []) r = (refl, tt)
apart_rising (p ∷ q ∷ ps) r = (above p.id q ps r.0 r.1, apart_rising (q ∷ ps) r.1)

-- ids of a listing, and a listing of ids
pub ids_of-listing : (f : ℕ → Bool) (ps : List Pointer) → filter f (ids_of ps) ≡ ids_of (listing f ps)
ids_of-listing f [] = refl
ids_of-listing f (p ∷ ps) = by_test (f p.id) (ids_of-listing f ps)
  where
    by_test : (b : Bool) → filter f (ids_of ps) ≡ ids_of (listing f ps)
        → cond b (p.id ∷ filter f (ids_of ps)) (filter f (ids_of ps)) ≡ ids_of (cond b (p ∷ listing f ps) (listing f ps))
    by_test true e = ap (λ xs. p.id ∷ xs) e
    by_test false e = e

-- two sets that agree on the ids of a list select the same pointers from it
pub listing_same : (f g : ℕ → Bool) (ps : List Pointer) → ((i : ℕ) → has_id i ps ≡ true → f i ≡ g i) → listing f ps ≡ listing g ps
listing_same f g [] same = refl
listing_same f g (p ∷ ps) same =
    let e : f p.id ≡ g p.id = same p.id (or_left _ _ (eq-eqb p.id p.id refl)) in
    let r : listing f ps ≡ listing g ps = listing_same f g ps (λ i h. same i (or_right _ _ h)) in
    λ k. cond (e k) (p ∷ r k) (r k)

-- A list of different ids without one of its pointers is the part of it that another set selects.
abbrev pub Removes_one : (f g : ℕ → Bool) (i : ℕ) (ps : List Pointer) → Type 0
Removes_one f g i ps =
    (remove (ids_of (listing f ps)) (index_in i (listing f ps)) ≡ ids_of (listing g ps))
    × (index_in i (listing f ps) < length (ids_of (listing f ps)))

-- the one pointer stands first
here : (f g : ℕ → Bool) (i : ℕ) (p : Pointer) (ps : List Pointer) → Apart (p ∷ ps) → f i ≡ true → g i ≡ false
    → ((j : ℕ) → (j == i) ≡ false → f j ≡ g j) → (p.id == i) ≡ true → Removes_one f g i (p ∷ ps)
here f g i p ps a fi gi same e =
    let q : p.id ≡ i = eqb-true p.id i e in
    let fp : f p.id ≡ true = ap f q ∙ fi in
    let gp : g p.id ≡ false = ap g q ∙ gi in
    let others : listing f ps ≡ listing g ps =
    listing_same f g ps
    (λ j h.
    same j
    (elim (cases_Bool (j == i)) [
      | inl t ↦ absurd (both_ways (has_id p.id ps) a.0 (subst (λ x. has_id x ps ≡ true) (eqb-true j i t ∙ sym q) h))
      | inr n ↦ n
    ])) in
    rw (fp, gp, e) (ap ids_of others, omega arith)

-- it stands behind the first one
there : (f g : ℕ → Bool) (i : ℕ) (p : Pointer) (ps : List Pointer) → Removes_one f g i ps → f p.id ≡ g p.id → (p.id == i) ≡ false
    → (b : Bool) → f p.id ≡ b → Removes_one f g i (p ∷ ps)
there f g i p ps r s e true t = rw (t, sym s ∙ t, e) (ap (λ xs. p.id ∷ xs) r.0, omega (arith, r.1))
there f g i p ps r s e false t = rw (t, sym s ∙ t) r

pub index-listing : (f g : ℕ → Bool) (i : ℕ) (ps : List Pointer) → Apart ps → has_id i ps ≡ true → f i ≡ true → g i ≡ false
    → ((j : ℕ) → (j == i) ≡ false → f j ≡ g j) → Removes_one f g i ps
index-listing f g i [] a h fi gi same = absurd (true≢false (sym h))
index-listing f g i (p ∷ ps) a h fi gi same =
    elim (cases_Bool (p.id == i)) [
      | inl e ↦ here f g i p ps a fi gi same e
      | inr e ↦
          let k : has_id i ps ≡ true = elim (or_cases (p.id == i) (has_id i ps) h) [ inl t ↦ absurd (both_ways (p.id == i) e t) | inr t ↦ t ] in
          there f g i p ps (index-listing f g i ps a.1 k fi gi same) (same p.id e) e (f p.id) refl
    ]

-- lists of ids that are the same
pub same_ids_refl : (xs : List ℕ) → same_ids xs xs ≡ true
same_ids_refl [] = refl
same_ids_refl (x ∷ xs) = and_from _ _ (eq-eqb x x refl) (same_ids_refl xs)

pub same_ids_is : (xs ys : List ℕ) → same_ids xs ys ≡ true → xs ≡ ys
same_ids_is [] [] e = refl
same_ids_is [] (y ∷ ys) e = absurd (true≢false (sym e))
same_ids_is (x ∷ xs) [] e = absurd (true≢false (sym e))
same_ids_is (x ∷ xs) (y ∷ ys) e =
    let p = and_parts (x == y) (same_ids xs ys) e in
    let q : x ≡ y = eqb-true x y p.0 in
    let r : xs ≡ ys = same_ids_is xs ys p.1 in
    λ i. q i ∷ r i

-- the pointer at a place of a list is in it, and without that place the others are left
pub id_at : (ps : List Pointer) (k : ℕ) (p : Pointer) → slice_get ps k ≡ Some p → has_id p.id ps ≡ true
id_at [] k p e = absurd (cc e)
id_at (q ∷ ps) zero p e = let s : q ≡ p = cc in or_left _ _ (eq-eqb q.id p.id (ap (λ x. x.id) s))
id_at (q ∷ ps) (suc k) p e = or_right _ _ (id_at ps k p e)

-- an id is in a listing where it is in the set and in the list
pub has_id-listing : (f : ℕ → Bool) (i : ℕ) (ps : List Pointer) → has_id i (listing f ps) ≡ (f i && has_id i ps)
has_id-listing f i ps = any-filter_same (λ p. p.id == i) (λ p. f p.id) (f i) (λ p e. ap f (eqb-true p.id i e)) ps

pub apart-listing : (f : ℕ → Bool) (ps : List Pointer) → Apart ps → Apart (listing f ps)
apart-listing f [] a = tt
apart-listing f (p ∷ ps) a = first (f p.id) (apart-listing f ps a.1) (has_id-listing f p.id ps ∙ and_right (f p.id) _ a.0)
  where
    first : (b : Bool) → Apart (listing f ps) → has_id p.id (listing f ps) ≡ false → Apart (cond b (p ∷ listing f ps) (listing f ps))
    first true r n = (n, r)
    first false r n = r

-- one id less
pub listing-less : (f : ℕ → Bool) (i : ℕ) (ps : List Pointer)
    → filter (λ q. not (q.id == i)) (listing f ps) ≡ listing (λ j. f j && not (j == i)) ps
listing-less f i [] = refl
listing-less f i (p ∷ ps) = first (f p.id) (p.id == i) (listing-less f i ps)
  where
    first : (b c : Bool) → filter (λ q. not (q.id == i)) (listing f ps) ≡ listing (λ j. f j && not (j == i)) ps
        → filter (λ q. not (q.id == i)) (cond b (p ∷ listing f ps) (listing f ps))
        ≡ cond (b && not (p.id == i)) (p ∷ listing (λ j. f j && not (j == i)) ps) (listing (λ j. f j && not (j == i)) ps)
    first false c e = e
    first true c e = λ k. cond (not (p.id == i)) (p ∷ e k) (e k)

-- a smaller set selects no more pointers
pub length-listing_le : (f g : ℕ → Bool) (ps : List Pointer) → ((j : ℕ) → has_id j ps ≡ true → f j ≡ true → g j ≡ true)
    → length (listing f ps) ≤ length (listing g ps)
length-listing_le f g [] sub = omega arith
length-listing_le f g (p ∷ ps) sub =
    first (f p.id) (g p.id) (sub p.id (or_left _ _ (eq-eqb p.id p.id refl))) (length-listing_le f g ps (λ j h. sub j (or_right _ _ h)))
  where
    first : (b c : Bool) → (b ≡ true → c ≡ true) → length (listing f ps) ≤ length (listing g ps)
        → length (cond b (p ∷ listing f ps) (listing f ps)) ≤ length (cond c (p ∷ listing g ps) (listing g ps))
    first true true s r = omega (arith, r)
    first true false s r = absurd (true≢false (sym (s refl)))
    first false true s r = omega (arith, r)
    first false false s r = r

pub length-ids_of : (ps : List Pointer) → length (ids_of ps) ≡ length ps
length-ids_of [] = refl
length-ids_of (p ∷ ps) = ap suc (length-ids_of ps)

-- a smaller set selects the same from a list as from what a larger set selects from it
pub filter-filter_sub : (l b : ℕ → Bool) (xs : List ℕ) → ((j : ℕ) → l j ≡ true → b j ≡ true) → filter l (filter b xs) ≡ filter l xs
filter-filter_sub l b [] sub = refl
filter-filter_sub l b (x ∷ xs) sub = first (b x) (l x) refl (sub x) (filter-filter_sub l b xs sub)
  where
    first : (c e : Bool) → l x ≡ e → (e ≡ true → c ≡ true) → filter l (filter b xs) ≡ filter l xs
        → filter l (cond c (x ∷ filter b xs) (filter b xs)) ≡ cond e (x ∷ filter l xs) (filter l xs)
    first true true p s r = rw p (ap (λ ys. x ∷ ys) r)
    first true false p s r = rw p r
    first false true p s r = absurd (true≢false (sym (s refl)))
    first false false p s r = r

-- removing an id that is not in the set does not change what it selects
pub filter-remove : (f : ℕ → Bool) (ps : List Pointer) (k : ℕ) (p : Pointer) → slice_get ps k ≡ Some p → f p.id ≡ false
    → filter f (remove (ids_of ps) k) ≡ filter f (ids_of ps)
filter-remove f [] k p e n = absurd (cc e)
filter-remove f (q ∷ ps) zero p e n = let s : q ≡ p = cc in let g : f q.id ≡ false = ap (λ x. f x.id) s ∙ n in rw g refl
filter-remove f (q ∷ ps) (suc k) p e n =
    ap (λ ys. cond (f q.id) (q.id ∷ ys) ys) (filter-remove f ps k p e n)

-- the ids of a list, by their test
pub any-ids_of : (i : ℕ) (ps : List Pointer) → list_any (λ j. j == i) (ids_of ps) ≡ has_id i ps
any-ids_of i [] = refl
any-ids_of i (p ∷ ps) = ap (λ c. p.id == i || c) (any-ids_of i ps)

-- without its place an id is not among different ids
pub not_in_remove : (ps : List Pointer) (k : ℕ) (p : Pointer) → Apart ps → slice_get ps k ≡ Some p
    → list_any (λ j. j == p.id) (remove (ids_of ps) k) ≡ false
not_in_remove [] k p a e = absurd (cc e)
not_in_remove (q ∷ ps) zero p a e =
    let s : q ≡ p = cc in
    any-ids_of p.id ps ∙ subst (λ x. has_id x.id ps ≡ false) s a.0
not_in_remove (q ∷ ps) (suc k) p a e =
    let differs : (q.id == p.id) ≡ false =
    elim (cases_Bool (q.id == p.id)) [
      | inl t ↦ absurd (both_ways (has_id q.id ps) a.0 (subst (λ x. has_id x ps ≡ true) (sym (eqb-true q.id p.id t)) (id_at ps k p e)))
      | inr n ↦ n
    ] in
    ap (λ c. c || list_any (λ j. j == p.id) (remove (ids_of ps) k)) differs ∙ not_in_remove ps k p a.1 e

-- a place below the length has a pointer
pub some_at : (ps : List Pointer) (k : ℕ) → k < length (ids_of ps) → (p : Pointer) × (slice_get ps k ≡ Some p)
some_at [] k lt = absurd (omega (arith, lt))
some_at (p ∷ ps) zero lt = (p, refl)
some_at (p ∷ ps) (suc k) lt = some_at ps k (omega (arith, lt))
