-- The readers of devices, by place.
use Rattle.std.proofs.Common.{◌≡◌, ℕ, zero, suc, ◌+◌, ◌-◌, ◌≤◌, ◌<◌, true, false, List, [], ◌∷◌, length, slice_index_or, Option, Some, None, refl, sym, ap, ◌∙◌, subst, inl, inr, arith, set, ◌≢◌, ◌⊎◌, length-set, get_or-set_other}
use Rattle.std.proofs.lemmas.Grind.{get_or-set_at}
use Rattle.std.proofs.lemmas.Bool.{cases_lt, cases_eq}
use Rattle.device_reader.specs.Reading.{Reading}
use Rattle.device_table.specs.Table.{AreNumbered, IsFirstFree, is_free, reader_of}

-- what stands at a place of a list is the same, whatever would stand past its end
default_any : {X : Type 0} (xs : List X) (i : ℕ) (a b : X) → i < length xs → slice_index_or xs i a ≡ slice_index_or xs i b
default_any [] i a b lt = absurd (omega arith)
default_any (x ∷ xs) zero a b lt = refl
default_any (x ∷ xs) (suc i) a b lt = default_any xs i a b (omega arith)

-- the reader at the place of a device is its own
pub reader_device : (readers : List (Option Reading)) (d i : ℕ) (o : Option Reading) (r : Reading) → AreNumbered readers → i ≡ d - 1 → 1 ≤ d → d ≤ 8
    → o ≡ slice_index_or readers i o → o ≡ Some r → d ≡ r.device
reader_device readers d i o r a at low high is there =
    let eight = a.eight in
    sym (a.numbers d r low
    (ap (λ k. slice_index_or readers k None) (sym at) ∙ default_any readers i None o (omega (arith, at, low, high, eight)) ∙ sym is ∙ there))

number_at : (readers : List (Option Reading)) (i n d : ℕ) (r q : Reading) → AreNumbered readers → i ≡ n - 1 → 1 ≤ n → n ≤ 8 → r.device ≡ n → 1 ≤ d
    → reader_of (set readers i (Some r)) d ≡ Some q → (d - 1 ≡ i) ⊎ (d - 1 ≢ i) → q.device ≡ d
number_at readers i n d r q a at low high is one there (inl same) =
    let long : i < length readers = omega (arith, at, low, high, a.eight) in
    let here : Some r ≡ Some q = sym (get_or-set_at readers i (d - 1) (Some r) None same long) ∙ there in
    let reader : r ≡ q = cc in
    ap (λ (x : Reading). x.device) (sym reader) ∙ is ∙ omega (arith, same, at, low, one)
number_at readers i n d r q a at low high is one there (inr other) = a.numbers d q one (sym (get_or-set_other readers i (d - 1) (Some r) None other) ∙ there)

-- the reader of a device is set in its place
pub numbered_set : (readers : List (Option Reading)) (i n : ℕ) (r : Reading) → AreNumbered readers → i ≡ n - 1 → 1 ≤ n → n ≤ 8 → r.device ≡ n
    → AreNumbered (set readers i (Some r))
numbered_set readers i n r a at low high is = record {
  eight = length-set readers i (Some r) ∙ a.eight;
  numbers = λ d q one there. number_at readers i n d r q a at low high is one there (cases_eq (d - 1) i);
}

-- no number up to the next one is free
pub none_free : (displays : List ℕ) (readers : List (Option Reading)) (y n d : ℕ) → d ≡ n + 1
    → ((k : ℕ) → 1 ≤ k → k ≤ n → is_free displays readers y k ≡ false) → is_free displays readers y d ≡ false
    → (k : ℕ) → 1 ≤ k → k ≤ n + 1 → is_free displays readers y k ≡ false
none_free displays readers y n d at below this k low high =
    elim (cases_lt n k) [
      | inl last ↦ subst (λ j. is_free displays readers y j ≡ false) (same d k at last high) this
      | inr le ↦ below k low le
    ]
  where
    same : (d k : ℕ) → d ≡ n + 1 → n < k → k ≤ n + 1 → d ≡ k
    same d k at last high = omega (arith, at, last, high)

-- the next one is free, and none below it
pub is_first : (displays : List ℕ) (readers : List (Option Reading)) (y n d : ℕ) → d ≡ n + 1 → n < 8
    → ((k : ℕ) → 1 ≤ k → k ≤ n → is_free displays readers y k ≡ false) → is_free displays readers y d ≡ true
    → IsFirstFree displays readers y (Some d)
is_first displays readers y n d at few below this =
    (omega (arith, at), omega (arith, at, few), this, λ k low high. below k low (omega (arith, at, high)))
