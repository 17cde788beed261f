-- Pointers with rising ids beside the set of their ids: where one stands, and whether some are in another set.
use Rattle.std.proofs.Common.{◌≡◌, ◌≢◌, ℕ, zero, suc, ◌^◌, ◌<◌, ◌==◌, ◌&&◌, ◌||◌, not, Bool, true, false, cond, List, [], ◌∷◌, ◌++◌, length, slice_get, Some, ◌∙◌, refl, sym, ap, subst, inl, inr, arith}
use Rattle.std.specs.Prelude.{nat_lt}
use Rattle.std.specs.Int.RustNames.{bit_and}
use Rattle.std.specs.List.{list_any}
use Rattle.std.proofs.lemmas.Bool.{cases_eq, cases_lt, or_cases, or_left, or_right, or_from, and_parts, eqb-true, eq-eqb, ne_eqb, ltb-true, lt-ltb, le-ltb, false≢true, false_from_ne_true, both_ways}
use Rattle.std.proofs.lemmas.List.{map-append}
use Rattle.std.proofs.lemmas.Option.{slice_get_within, slice_get-map}
use Rattle.std.proofs.lemmas.Nat.{and_le_l}
use Rattle.bits32.specs.Set.{is_in, members_below, members}
use Rattle.bits32.proofs.Members.{in_below}
use Rattle.input_types.specs.declared.pointer.Pointer.{Pointer}
use Rattle.input_types.specs.Gestures.{ids_of}
use Rattle.input_types.specs.Pointers.{IsRising}
use Rattle.routing_rules.specs.Outgoing.{listing}
use Rattle.routing_rules.proofs.Listings.{has_id, id_at, listing_same, length-ids_of}
use Rattle.split_motion.proofs.Parts.{rest_rises}
use Rattle.dispatcher.proofs.PointersById.LeastBit.{is_in_and, is_in_zero, least_in, trailing_least}

-- the set has the ids of the pointers
abbrev pub AreIds : ℕ → List Pointer → Type 0
AreIds ids ps = (i : ℕ) → is_in i ids ≡ has_id i ps

-- the ids of later pointers are above that of the first one
later_above : (p : Pointer) (ps : List Pointer) (j : ℕ) → IsRising (p ∷ ps) → has_id j ps ≡ true → p.id < j
later_above p [] j r h = absurd (false≢true h)
later_above p (q ∷ ps) j r h =
    elim (or_cases (q.id == j) (has_id j ps) h) [
      | inl t ↦ omega (arith, r.0, eqb-true q.id j t)
      | inr t ↦ omega (arith, r.0, later_above q ps j r.1 t)
    ]

-- a set without ids of the list selects nothing from it
pub none_listed : (f : ℕ → Bool) (ps : List Pointer) → ((i : ℕ) → has_id i ps ≡ true → f i ≡ false)
    → listing f ps ≡ []
none_listed f [] out = refl
none_listed f (p ∷ ps) out =
    let first : f p.id ≡ false = out p.id (or_left _ _ (eq-eqb p.id p.id refl)) in
    rw first (none_listed f ps (λ i h. out i (or_right _ _ h)))

-- a larger set selects the whole list
all_listed : (f : ℕ → Bool) (ps : List Pointer) → ((i : ℕ) → has_id i ps ≡ true → f i ≡ true) → listing f ps ≡ ps
all_listed f [] all = refl
all_listed f (p ∷ ps) all =
    let first : f p.id ≡ true = all p.id (or_left _ _ (eq-eqb p.id p.id refl)) in
    rw first (ap (λ qs. p ∷ qs) (all_listed f ps (λ i h. all i (or_right _ _ h))))

-- A set with one more id, above all its other ids, selects one more pointer.
pub one_more : (f g : ℕ → Bool) (ps : List Pointer) (k : ℕ) (p : Pointer) → IsRising ps → slice_get ps k ≡ Some p
    → ((j : ℕ) → has_id j ps ≡ true → f j ≡ true → j < p.id) → ((j : ℕ) → g j ≡ (j == p.id || f j))
    → listing g ps ≡ listing f ps ++ p ∷ []
one_more f g [] k p r e low more = absurd (cc e)
one_more f g (q ∷ ps) zero p r e low more =
    let s : q ≡ p = cc in
    let here : f p.id ≡ false =
    false_from_ne_true (f p.id)
    (λ t. absurd (omega (arith, low p.id (or_left _ _ (eq-eqb q.id p.id (ap (λ x. x.id) s))) t))) in
    let above : (j : ℕ) → has_id j ps ≡ true → p.id < j =
    λ j h. subst (λ x. x.id < j) s (later_above q ps j r h) in
    let low_none : (j : ℕ) → has_id j ps ≡ true → f j ≡ false =
    λ j h. false_from_ne_true (f j) (λ t. absurd (omega (arith, above j h, low j (or_right _ _ h) t))) in
    let none : listing f ps ≡ [] = none_listed f ps low_none in
    let none_new : listing g ps ≡ [] =
    none_listed g ps
    (λ j h.
    let other : (j == p.id) ≡ false = ne_eqb j p.id (λ same. absurd (omega (arith, same, above j h))) in
    more j ∙ or_from (j == p.id) (f j) other (low_none j h)) in
    let fq : f q.id ≡ false = ap (λ x. f x.id) s ∙ here in
    let gq : g q.id ≡ true = more q.id ∙ or_left _ _ (eq-eqb q.id p.id (ap (λ x. x.id) s)) in
    rw (fq, gq, none, none_new) (ap (λ x. x ∷ []) s)
one_more f g (q ∷ ps) (suc k) p r e low more =
    let later : q.id < p.id = later_above q ps p.id r (id_at ps k p e) in
    let other : (q.id == p.id) ≡ false = ne_eqb q.id p.id (λ is. absurd (omega (arith, later, is))) in
    let same : g q.id ≡ f q.id = more q.id ∙ ap (λ b. b || f q.id) other in
    let rest : listing g ps ≡ listing f ps ++ p ∷ [] =
    one_more f g ps k p (rest_rises q ps r) e (λ j h. low j (or_right _ _ h)) more in
    rw (same, rest) (by_test (f q.id))
  where
    by_test : (b : Bool) → cond b (q ∷ (listing f ps ++ p ∷ [])) (listing f ps ++ p ∷ [])
        ≡ cond b (q ∷ listing f ps) (listing f ps) ++ p ∷ []
    by_test true = refl
    by_test false = refl

-- an id of the list is that of a pointer at some index
record Found (i : ℕ) (ps : List Pointer) : Type 0 where
  place : ℕ
  pointer : Pointer
  at : slice_get ps place ≡ Some pointer
  is : pointer.id ≡ i

-- such a pointer
found : (i : ℕ) (ps : List Pointer) → has_id i ps ≡ true → Found i ps
found i [] h = absurd (false≢true h)
found i (p ∷ ps) h =
    elim (or_cases (p.id == i) (has_id i ps) h) [
      | inl t ↦ record { place = 0; pointer = p; at = refl; is = eqb-true p.id i t }
      | inr t ↦ let f = found i ps t in record { place = suc f.place; pointer = f.pointer; at = f.at; is = f.is }
    ]

-- the numbers below the next one
lt_more : (j n : ℕ) → nat_lt j (suc n) ≡ (j == n || nat_lt j n)
lt_more j n =
    elim (cases_lt j n) [
      | inl lt ↦ lt-ltb j (suc n) (omega (arith, lt)) ∙ sym (or_right (j == n) (nat_lt j n) (lt-ltb j n lt))
      | inr ge ↦
          elim (cases_eq j n) [
            | inl e ↦ lt-ltb j (suc n) (omega (arith, e)) ∙ sym (or_left (j == n) (nat_lt j n) (eq-eqb j n e))
            | inr ne ↦
                le-ltb j (suc n) (omega (arith, ge, ne))
                ∙ sym (or_from (j == n) (nat_lt j n) (ne_eqb j n ne) (le-ltb j n ge))
          ]
    ]

-- the numbers of the set below n are the ids below n
members_are : (n ids : ℕ) (ps : List Pointer) → IsRising ps → AreIds ids ps
    → members_below n ids ≡ ids_of (listing (λ i. nat_lt i n) ps)
unfolding members_below
members_are zero ids ps r are = sym (ap ids_of (none_listed (λ i. nat_lt i 0) ps (λ i h. le-ltb i 0 (omega arith))))
members_are (suc n) ids ps r are = by_test (is_in n ids) refl (members_are n ids ps r are)
  where
    by_test : (b : Bool) → is_in n ids ≡ b → members_below n ids ≡ ids_of (listing (λ i. nat_lt i n) ps)
        → cond b (members_below n ids ++ n ∷ []) (members_below n ids) ≡ ids_of (listing (λ i. nat_lt i (suc n)) ps)
    by_test true t before =
        let f = found n ps (sym (are n) ∙ t) in
        let more : listing (λ i. nat_lt i (suc n)) ps ≡ listing (λ i. nat_lt i n) ps ++ f.pointer ∷ [] =
        one_more (λ i. nat_lt i n) (λ i. nat_lt i (suc n)) ps f.place f.pointer r f.at
        (λ j h lt. omega (arith, ltb-true j n lt, f.is))
        (λ j. lt_more j n ∙ ap (λ x. j == x || nat_lt j n) (sym f.is)) in
        ap (λ xs. xs ++ n ∷ []) before
        ∙ ap (λ x. ids_of (listing (λ i. nat_lt i n) ps) ++ x ∷ []) (sym f.is)
        ∙ sym (map-append (λ (p : Pointer). p.id) (listing (λ i. nat_lt i n) ps) (f.pointer ∷ []))
        ∙ sym (ap ids_of more)
    by_test false t before =
        let other : (i : ℕ) → has_id i ps ≡ true → i ≢ n =
        λ i h same. both_ways (has_id n ps) (sym (are n) ∙ t) (subst (λ x. has_id x ps ≡ true) same h) in
        before
        ∙ ap ids_of (listing_same (λ i. nat_lt i n) (λ i. nat_lt i (suc n)) ps
        (λ i h. sym (lt_more i n ∙ ap (λ b. b || nat_lt i n) (ne_eqb i n (other i h)))))

-- the numbers of the set of the ids are the ids, in the same order
members_ids : (ids : ℕ) (ps : List Pointer) → ids < 2 ^ 32 → IsRising ps → AreIds ids ps → members ids ≡ ids_of ps
members_ids ids ps fits r are =
    members_are 32 ids ps r are
    ∙ ap ids_of (all_listed (λ i. nat_lt i 32) ps (λ i h. lt-ltb i 32 (in_below i ids fits (are i ∙ h))))

-- the pointer with an id stands where this stands among the numbers of the set
pub place_within : (ids id place : ℕ) (ps : List Pointer) → ids < 2 ^ 32 → IsRising ps → AreIds ids ps
    → slice_get (members ids) place ≡ Some id → place < length ps
place_within ids id place ps fits r are e =
    let there : slice_get (ids_of ps) place ≡ Some id =
    ap (λ xs. slice_get xs place) (sym (members_ids ids ps fits r are)) ∙ e in
    let within : place < length (ids_of ps) = slice_get_within (ids_of ps) place id there in
    omega (arith, within, length-ids_of ps)

pub id_there : (ids id place : ℕ) (ps : List Pointer) (p : Pointer) → ids < 2 ^ 32 → IsRising ps → AreIds ids ps
    → slice_get (members ids) place ≡ Some id → slice_get ps place ≡ Some p → p.id ≡ id
id_there ids id place ps p fits r are e at =
    let here : slice_get (ids_of ps) place ≡ Some p.id = slice_get-map (λ (q : Pointer). q.id) ps place ∙ rw at refl in
    let there : slice_get (ids_of ps) place ≡ Some id =
    ap (λ xs. slice_get xs place) (sym (members_ids ids ps fits r are)) ∙ e in
    cc

-- no pointer is in a set without their ids
none_in : (set : ℕ) (ps : List Pointer) → ((i : ℕ) → has_id i ps ≡ true → is_in i set ≡ false)
    → list_any (λ p. is_in p.id set) ps ≡ false
none_in set [] out = refl
none_in set (p ∷ ps) out =
    or_from _ _ (out p.id (or_left _ _ (eq-eqb p.id p.id refl))) (none_in set ps (λ i h. out i (or_right _ _ h)))

-- and some pointer is in the set if it contains one of the ids
some_in : (set i : ℕ) (ps : List Pointer) → has_id i ps ≡ true → is_in i set ≡ true
    → list_any (λ p. is_in p.id set) ps ≡ true
some_in set i [] h t = absurd (false≢true h)
some_in set i (p ∷ ps) h t =
    elim (or_cases (p.id == i) (has_id i ps) h) [
      | inl e ↦ or_left _ _ (ap (λ x. is_in x set) (eqb-true p.id i e) ∙ t)
      | inr e ↦ or_right _ _ (some_in set i ps e t)
    ]

-- some pointer is in a set if the set and the ids have a number in common
pub some_of : (ids set : ℕ) (ps : List Pointer) → ids < 2 ^ 32 → AreIds ids ps
    → not (bit_and ids set == 0) ≡ list_any (λ p. is_in p.id set) ps
some_of ids set ps fits are =
    elim (cases_eq (bit_and ids set) 0) [
      | inl e ↦
          let out : (i : ℕ) → has_id i ps ≡ true → is_in i set ≡ false =
          λ i h.
          ap (λ b. b && is_in i set) (sym (are i ∙ h)) ∙ sym (is_in_and ids set i) ∙ ap (is_in i) e ∙ is_in_zero i in
          ap not (eq-eqb _ _ e) ∙ sym (none_in set ps out)
      | inr ne ↦
          let least = trailing_least (bit_and ids set) (omega (arith, ne)) (omega (arith, fits, and_le_l ids set)) in
          let both = and_parts _ _ (sym (is_in_and ids set _) ∙ least_in _ _ least) in
          ap not (ne_eqb _ _ ne) ∙ sym (some_in set _ ps (sym (are _) ∙ both.0) both.1)
    ]
