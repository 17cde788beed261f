-- The numbers of keys that are down, one key more or less.
use Rattle.std.specs.Prelude.{◌≡◌, ℕ, suc, ◌+◌, ◌-◌, ◌<◌, ◌≤◌, nat_eq, nat_lt, Bool, true, false, [], ◌∷◌, length, Option, Some, None, slice_get, if◌then◌else◌}
use Rattle.std.specs.BTreeMap.{insert_entry, is_at}
use Rattle.std.specs.List.Sorted.{IsStrictlySortedBy}
use Rattle.std.specs.Map.{keys_of, values_of, remove_entry}
use Rattle.std.specs.Option.{unwrap_or, option_map}
use Rattle.std.specs.Ordering.{nat_cmp}
use Rattle.std.proofs.Common.{sym, ◌∙◌, ap, refl, arith, eq-eqb}
use Rattle.std.proofs.lemmas.Bool.{eqb-true, lt-ltb, ltb-true}
use Rattle.std.proofs.lemmas.Cmp.{nat_cmp_total}
use Rattle.std.proofs.lemmas.List.Sums.{sum_by-cons, count_by-le-length}
use Rattle.std.proofs.lemmas.Map.Entries.{sum_by-insert_entry, sum_by-remove_entry, length-values_of}
use Rattle.key_layout.specs.Layout.{Codes, found_at}
use Rattle.key_mapper.specs.Held.{count, counts, more, fewer, with_key, without_key, AreBelow}

-- whether a key has a code, as a number
abbrev one_if : ℕ → ℕ → ℕ
one_if code c = if nat_eq c code then 1 else 0

more_at : (a b n m : ℕ) (t : Bool) → n + 0 ≡ m + (if t then 1 else 0) → n ≡ (if t then m + 1 else m)
more_at a b n m true e = omega arith
more_at a b n m false e = omega arith

fewer_at : (n m : ℕ) (t : Bool) → n + (if t then 1 else 0) ≡ m → n ≡ (if t then m - 1 else m)
fewer_at n m true e = omega arith
fewer_at n m false e = omega arith

pub count_more : (code : ℕ) (down : Codes) (scan c : ℕ) → IsStrictlySortedBy nat_cmp (keys_of down) → found_at down scan ≡ None
    → count code (values_of (insert_entry nat_cmp down scan c)) ≡ more code c (count code (values_of down))
count_more code down scan c sorted none =
    let is : count code (values_of (insert_entry nat_cmp down scan c)) + unwrap_or (option_map (one_if code) (found_at down scan)) 0 ≡ count code (values_of down) + one_if code c =
    sum_by-insert_entry (one_if code) nat_cmp_total down scan c sorted in
    more_at code c (count code (values_of (insert_entry nat_cmp down scan c))) (count code (values_of down)) (nat_eq c code)
    (sym (ap (λ (o : Option ℕ). count code (values_of (insert_entry nat_cmp down scan c)) + unwrap_or (option_map (one_if code) o) 0) none) ∙ is)

pub count_fewer : (code : ℕ) (down : Codes) (scan c : ℕ) → found_at down scan ≡ Some c
    → count code (values_of (remove_entry (is_at (nat_cmp scan)) down)) ≡ fewer code c (count code (values_of down))
count_fewer code down scan c some =
    let is : count code (values_of (remove_entry (is_at (nat_cmp scan)) down)) + unwrap_or (option_map (one_if code) (found_at down scan)) 0 ≡ count code (values_of down) =
    sum_by-remove_entry (one_if code) (is_at (nat_cmp scan)) down in
    fewer_at (count code (values_of (remove_entry (is_at (nat_cmp scan)) down))) (count code (values_of down)) (nat_eq c code)
    (sym (ap (λ (o : Option ℕ). count code (values_of (remove_entry (is_at (nat_cmp scan)) down)) + unwrap_or (option_map (one_if code) o) 0) some) ∙ is)

pub counts_more : (down : Codes) (scan c : ℕ) → IsStrictlySortedBy nat_cmp (keys_of down) → found_at down scan ≡ None
    → with_key (counts down) c ≡ counts (insert_entry nat_cmp down scan c)
counts_more down scan c sorted none i = record {
  alt_left = sym (count_more 57 down scan c sorted none) i;
  alt_right = sym (count_more 58 down scan c sorted none) i;
  shift_left = sym (count_more 59 down scan c sorted none) i;
  shift_right = sym (count_more 60 down scan c sorted none) i;
  ctrl_left = sym (count_more 113 down scan c sorted none) i;
  ctrl_right = sym (count_more 114 down scan c sorted none) i;
}

pub counts_fewer : (down : Codes) (scan c : ℕ) → found_at down scan ≡ Some c
    → without_key (counts down) c ≡ counts (remove_entry (is_at (nat_cmp scan)) down)
counts_fewer down scan c some i = record {
  alt_left = sym (count_fewer 57 down scan c some) i;
  alt_right = sym (count_fewer 58 down scan c some) i;
  shift_left = sym (count_fewer 59 down scan c some) i;
  shift_right = sym (count_fewer 60 down scan c some) i;
  ctrl_left = sym (count_fewer 113 down scan c some) i;
  ctrl_right = sym (count_fewer 114 down scan c some) i;
}

pub count_within : (code : ℕ) (down : Codes) → count code (values_of down) ≤ length down
count_within code down = omega (arith, count_by-le-length (λ c. nat_eq c code) (values_of down), length-values_of down)

-- no number of keys is above that of all keys that are down
pub counts_below : (down : Codes) (n : ℕ) → length down < n → AreBelow n (counts down)
counts_below down n h = record {
  alt_left = omega (arith, h, count_within 57 down);
  alt_right = omega (arith, h, count_within 58 down);
  shift_left = omega (arith, h, count_within 59 down);
  shift_right = omega (arith, h, count_within 60 down);
  ctrl_left = omega (arith, h, count_within 113 down);
  ctrl_right = omega (arith, h, count_within 114 down);
}

-- a key of a code that is counted
count_found_at : (code : ℕ) (e : ℕ × ℕ) (es : Codes) (t : Bool) → nat_eq e.1 code ≡ t → nat_lt 0 ((if t then 1 else 0) + count code (values_of es)) ≡ true
    → (nat_lt 0 (count code (values_of es)) ≡ true → (i : ℕ) × (scan : ℕ) × (slice_get es i ≡ Some (scan, code)))
    → (i : ℕ) × (scan : ℕ) × (slice_get (e ∷ es) i ≡ Some (scan, code))
count_found_at code e es true is some later = (0, e.0, ap (λ c. Some (e.0, c)) (eqb-true e.1 code is))
count_found_at code e es false is some later =
    let some' : 0 < 0 + count code (values_of es) = ltb-true 0 (0 + count code (values_of es)) some in
    let there : (i : ℕ) × (scan : ℕ) × (slice_get es i ≡ Some (scan, code)) = later (lt-ltb 0 (count code (values_of es)) (omega arith)) in
    (suc there.0, there.1, there.2)

pub count_found : (code : ℕ) (es : Codes) → nat_lt 0 (count code (values_of es)) ≡ true → (i : ℕ) × (scan : ℕ) × (slice_get es i ≡ Some (scan, code))
count_found code [] some = absurd (cc)
count_found code (e ∷ es) some =
    count_found_at code e es (nat_eq e.1 code) refl (ap (λ n. nat_lt 0 n) (sym (sum_by-cons (one_if code) e.1 (values_of es))) ∙ some) (λ h. count_found code es h)

-- the code of a key that is down is counted
pub count_some : (code : ℕ) (es : Codes) (scan : ℕ) → found_at es scan ≡ Some code → nat_lt 0 (count code (values_of es)) ≡ true
count_some code es scan some =
    let is : count code (values_of (remove_entry (is_at (nat_cmp scan)) es)) + unwrap_or (option_map (one_if code) (found_at es scan)) 0 ≡ count code (values_of es) =
    sum_by-remove_entry (one_if code) (is_at (nat_cmp scan)) es in
    let one : unwrap_or (option_map (one_if code) (found_at es scan)) 0 ≡ 1 =
    ap (λ (o : Option ℕ). unwrap_or (option_map (one_if code) o) 0) some ∙ ap (λ (t : Bool). if t then 1 else 0) (eq-eqb code code refl) in
    lt-ltb 0 (count code (values_of es)) (omega (arith, is, one))
