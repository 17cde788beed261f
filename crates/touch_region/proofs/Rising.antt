-- Spans and bands one behind the other: how a number is found among them, and what one more adds.
use Rattle.std.proofs.Common.{◌≡◌, ℕ, suc, ◌<◌, ◌≤◌, List, [], ◌∷◌, ◌++◌, ◌-◌, length, get_or, take, drop, Bool, true, false, ◌||◌, refl, sym, ◌∙◌, ap, arith, inl, inr}
use Rattle.std.specs.Prelude.{ℤ, ◌≤ℤ◌, ◌<ℤ◌, int_le, int_lt}
use Rattle.std.specs.List.{list_any, All}
use Rattle.std.specs.List.Sorted.{IsPartitionPoint, IsPartitionedBy, IsSortedByKey}
use Rattle.std.specs.Cmp.{int_cmp_total}
use Rattle.std.specs.Fn.{Called, ComputesKey}
use Rattle.std.specs.Ordering.{int_cmp, is_lt}
use Rattle.std.proofs.lemmas.Fn.{always_returns_same}
use Rattle.std.proofs.lemmas.List.Sorted.{sorted_far, ranks_by}
use denote.Param.Members.{Mut}
use denote.Ref.{Bor}
use Rattle.std.proofs.lemmas.Bool.{cases_order, and_parts}
use Rattle.std.proofs.lemmas.Int.{ints, by_lt_z}
use Rattle.std.proofs.lemmas.List.{get_or_default, take_all}
use Rattle.std.proofs.lemmas.List.Folds.{list_any-append, list_any_none, Any-from_list_any, list_any_at}
use Rattle.std.proofs.lemmas.List.Elements.{All-push, All-weaker}
use Rattle.std.proofs.lemmas.List.Quantifiers.{all_pairs_push}
use Rattle.touch_region.specs.Between.{is_between}
use Rattle.touch_region.specs.Spans.{AreApart, InOrder}

pub same_test : (a b : Bool) → (a ≡ true → b ≡ true) → (b ≡ true → a ≡ true) → a ≡ b
same_test true b f g = sym (f refl)
same_test false true f g = g refl
same_test false false f g = refl

pub not_true : (a : Bool) → (a ≡ true → a ≡ false) → a ≡ false
not_true true f = f refl
not_true false f = refl

pub le_true : (a b : ℤ) → int_le a b ≡ true → a ≤ℤ b
le_true a b h = grind (arith, ints)

pub le_false : (a b : ℤ) → int_le a b ≡ false → b <ℤ a
le_false a b h = grind (arith, ints)

pub true_le : (a b : ℤ) → a ≤ℤ b → int_le a b ≡ true
true_le a b h = grind (arith, ints)

pub between_from : (a x b : ℤ) → is_between a x b ≡ true → a ≤ℤ x
between_from a x b h = le_true a x (and_parts _ _ h).0

pub lt_true : (a b : ℤ) → int_lt a b ≡ true → a <ℤ b
lt_true a b h = grind (arith, ints)

pub true_lt : (a b : ℤ) → a <ℤ b → int_lt a b ≡ true
true_lt a b h = grind (arith, ints)

pub lt_false : (a b : ℤ) → int_lt a b ≡ false → b ≤ℤ a
lt_false a b h = grind (arith, ints)

pub between_until : (a x b : ℤ) → is_between a x b ≡ true → x <ℤ b
between_until a x b h = lt_true x b (and_parts _ _ h).1

pub is_between_since : (a x b : ℤ) → a ≤ℤ x → x <ℤ b → is_between a x b ≡ true
is_between_since a x b h k = grind (arith, ints)

pub none_apart : {X : Type 0} (from until : X → ℤ) → AreApart from until []
none_apart from until = record { wide = λ k d within. absurd (omega arith); rising = λ i j d below within. absurd (omega arith) }

-- the first of a list that is not empty, and the others
pub first_and_rest : {X : Type 0} (xs : List X) (d : X) → 1 ≤ length xs → xs ≡ get_or xs 0 d ∷ take (length xs - 1) (drop 1 xs)
first_and_rest [] d some = absurd (omega arith)
first_and_rest (x ∷ xs) d some = ap (λ ys. x ∷ ys) (sym (take_all (length (x ∷ xs) - 1) xs (omega arith)))

not_below : (a b : ℤ) → is_lt (int_cmp a b) ≡ false → b ≤ℤ a
not_below a b h = grind (arith, ints)

rising_from_sort : {X : Type 0} (from : X → ℤ) (xs : List X) → IsSortedByKey from int_cmp xs → InOrder from xs
rising_from_sort from xs sorted i j d below within =
    not_below (from (get_or xs j d)) (from (get_or xs i d))
    (sorted_far (λ x y. is_lt (int_cmp (from x) (from y))) (ranks_by int_cmp_total from) xs sorted i j d (omega arith) within)

-- what a sort by a signed key ensures
pub in_order : {X : Type 0} (from : X → ℤ) {F : Type 0} {g : Mut F (Bor X × Unit {0}) ℤ} {f : F} (xs : List X)
    → ((key : X → ℤ) → ComputesKey g key f → IsSortedByKey key int_cmp xs)
    → ((a : Bor X × Unit {0}) (r : ℤ) (f' : F) → Called g f a r f' → (r ≡ from a.0.now) × (f' ≡ f)) → InOrder from xs
in_order from {g = g} {f = f} xs up h = rising_from_sort from xs (up from (always_returns_same g (λ a r. r ≡ from a.0.now) f h))

pub order_head : {X : Type 0} (from : X → ℤ) (x : X) (xs : List X) → InOrder from (x ∷ xs) → All (λ y. from x ≤ℤ from y) xs
order_head from x xs order k d within = order 0 (suc k) d (omega arith) (omega arith)

pub order_tail : {X : Type 0} (from : X → ℤ) (x : X) (xs : List X) → InOrder from (x ∷ xs) → InOrder from xs
order_tail from x xs order i j d below within = order (suc i) (suc j) d (omega arith) (omega arith)

-- those that end at z or before it stand in front of all others
pub ended_first : {X : Type 0} (from until : X → ℤ) (z : ℤ) (xs : List X) → AreApart from until xs → IsPartitionedBy (λ x. int_le (until x) z) xs
ended_first from until z xs apart i j d order within h =
    elim (cases_order i j) as (λ _. int_le (until (get_or xs i d)) z ≡ true) [
      | inl same ↦ rw same h
      | inr e ↦ elim e as (λ _. int_le (until (get_or xs i d)) z ≡ true) [
        | inl below ↦
            let ended : until (get_or xs j d) ≤ℤ z = le_true _ _ h in
            let behind : until (get_or xs i d) ≤ℤ from (get_or xs j d) = apart.rising i j d below within in
            let wide : from (get_or xs j d) <ℤ until (get_or xs j d) = apart.wide j d within in
            true_le (until (get_or xs i d)) z (omega (arith, ints))
        | inr above ↦ absurd (omega arith)
      ]
    ]

module _ {X : Type 0} (from until : X → ℤ) (test : X → Bool) (z : ℤ)
    (begun : (x : X) → test x ≡ true → from x ≤ℤ z) (open' : (x : X) → test x ≡ true → z <ℤ until x)
    (xs : List X) (apart : AreApart from until xs) (i : ℕ)
    (point : IsPartitionPoint (λ x. int_le (until x) z ≡ true) (λ x. int_le (until x) z ≡ false) xs i) where
  -- if one of them passes, it is the first that has not ended
  place : (k : ℕ) (x : X) → k < length xs → get_or xs k x ≡ x → test x ≡ true → k ≡ i
  place k x within at passes =
      elim (cases_order k i) as (λ _. k ≡ i) [
        | inl same ↦ same
        | inr e ↦ elim e as (λ _. k ≡ i) [
          | inl below ↦
              let ended : until x ≤ℤ z = le_true _ _ (rw at at (point.0 k x (omega arith) below)) in
              let ahead : z <ℤ until x = open' x passes in
              absurd (omega (arith, ints))
          | inr above ↦
              let ahead : z <ℤ until (get_or xs i x) = le_false _ _ (point.1 i x (omega arith) (omega arith)) in
              let behind : until (get_or xs i x) ≤ℤ from x = rw at at (apart.rising i k x above within) in
              let inside : from x ≤ℤ z = begun x passes in
              absurd (omega (arith, ints))
        ]
      ]

  passed : list_any test xs ≡ true → (k : ℕ) × (x : X) × (k < length xs) × (get_or xs k x ≡ x) × (test x ≡ true)
  passed = Any-from_list_any test xs

  pub found : (x : X) → i < length xs → x ≡ get_or xs i x → test x ≡ list_any test xs
  found x within at =
      same_test (test x) (list_any test xs) (λ t. list_any_at test xs i x within (rw (sym at) t))
      (λ some.
      let p = passed some in
      let here : p.0 ≡ i = place p.0 p.1 p.2 p.3 p.4 in
      let same : x ≡ p.1 = at ∙ (get_or_default xs i x p.1 within ∙ (rw here at p.3)) in
      rw same p.4)

  pub not_found : length xs ≤ i → false ≡ list_any test xs
  not_found past =
      sym (not_true _ (λ some.
      let p = passed some in
      let here : p.0 ≡ i = place p.0 p.1 p.2 p.3 p.4 in
      let within : p.0 < length xs = p.2 in
      absurd (omega arith)))

pub past : {X : Type 0} (until : X → ℤ) (hold : X → ℤ → Bool) (until_is : (x : X) (z : ℤ) → hold x z ≡ true → z <ℤ until x) (low : ℤ) (xs : List X)
    → All (λ x. until x ≤ℤ low) xs → (z : ℤ) → low ≤ℤ z → list_any (λ x. hold x z) xs ≡ false
past until hold until_is low xs ended z behind =
    list_any_none (λ x. hold x z) xs
    (All-weaker (λ x. until x ≤ℤ low) (λ x. hold x z ≡ false)
    (λ x h. not_true (hold x z) (λ t. let open' : z <ℤ until x = until_is x z t in absurd (omega (arith, ints)))) xs ended)

or_false : (a : Bool) → (a || false) ≡ a
or_false true = refl
or_false false = refl

module _ {X : Type 0} (until : X → ℤ) (hold : X → ℤ → Bool) (target : ℤ → Bool) (low high : ℤ) (xs : List X)
    (until_is : (x : X) (z : ℤ) → hold x z ≡ true → z <ℤ until x)
    (ended : All (λ x. until x ≤ℤ low) xs)
    (old : (z : ℤ) → z <ℤ low → list_any (λ x. hold x z) xs ≡ target z) where
  -- if nothing lies from low to high, they stay as they are
  pub still : ((z : ℤ) → low ≤ℤ z → z <ℤ high → target z ≡ false) → (z : ℤ) → z <ℤ high → list_any (λ x. hold x z) xs ≡ target z
  still none z h = by_lt_z z low (λ below. old z below) (λ above. past until hold until_is low xs ended z above ∙ sym (none z above h))

  -- one more span that covers everything from low to high
  pub and_one : (x : X) → ((z : ℤ) → z <ℤ low → hold x z ≡ false) → ((z : ℤ) → low ≤ℤ z → z <ℤ high → hold x z ≡ target z)
      → (z : ℤ) → z <ℤ high → list_any (λ y. hold y z) (xs ++ x ∷ []) ≡ target z
  and_one x before here z h =
      let p : X → Bool = λ y. hold y z in
      by_lt_z z low
      (λ below. list_any-append p xs (x ∷ []) ∙ (rw (before z below) (or_false (list_any p xs) ∙ old z below)))
      (λ above. list_any-append p xs (x ∷ []) ∙ (rw (past until hold until_is low xs ended z above) (or_false (hold x z) ∙ here z above h)))

pub apart_and_one : {X : Type 0} (from until : X → ℤ) (low : ℤ) (xs : List X) (x : X) → AreApart from until xs → All (λ y. until y ≤ℤ low) xs → low ≤ℤ from x → from x <ℤ until x
    → AreApart from until (xs ++ x ∷ [])
apart_and_one from until low xs x apart ended behind wide = record {
  wide = All-push (λ y. from y <ℤ until y) xs x apart.wide wide;
  rising = all_pairs_push (λ y z. until y ≤ℤ from z) xs x apart.rising
      (λ k d within. let e : until (get_or xs k d) ≤ℤ low = ended k d within in omega (arith, ints));
}

pub ended_and_one : {X : Type 0} (until : X → ℤ) (low high : ℤ) (xs : List X) (x : X) → All (λ y. until y ≤ℤ low) xs → low ≤ℤ high → until x ≤ℤ high → All (λ y. until y ≤ℤ high) (xs ++ x ∷ [])
ended_and_one until low high xs x ended order h =
    All-push (λ y. until y ≤ℤ high) xs x (All-weaker (λ y. until y ≤ℤ low) (λ y. until y ≤ℤ high) (λ y e. omega (arith, ints)) xs ended) h
