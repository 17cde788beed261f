-- The keys of a table.
use Rattle.std.proofs.Common.{◌≡◌, ◌≢◌, ℕ, Bool, ◌+◌, ◌/◌, ◌%◌, ◌<◌, ◌≤◌, ◌&&◌, ◌||◌, true, false, cond, if◌then◌else◌, List, [], ◌∷◌, map, refl, sym, ◌∙◌, arith, nat_eq, nat_lt, is_some, None, ⊎_elim, eq-eqb}
use Rattle.std.proofs.lemmas.Bool.{cases_eq, false≢true, lt-ltb, ne_eqb}
use Rattle.std.proofs.lemmas.Bool.Decides.{nat_tests}
use Rattle.std.proofs.lemmas.Map.Made.{is_some-lookup}
use Rattle.std.specs.BTreeMap.{insert_entry}
use Rattle.std.specs.List.{AllByRecursion, list_all, list_any}
use Rattle.std.specs.List.Sorted.{IsStrictlySortedBy}
use Rattle.std.specs.Map.{keys_of, remove_entry}
use Rattle.std.specs.Ordering.{nat_cmp, is_eq, match_ordering}
use Rattle.std.specs.declared.cmp.Ordering.{Ordering}
use Rattle.std.specs.declared.cmp.Ordering.TheVariants.{Less, Equal, Greater}
use Rattle.gesture_verifier.specs.Held.{are_rising, is_before, is_held, key_at}
use Rattle.std.specs.Cmp.{unsigned_tied}
use Rattle.gesture_verifier.proofs.Tables.{not_both, within_key}
use Rattle.gesture_verifier.specs.Told.{are_places, due_at, due_kept, is_of_device, is_place, key_place}

both : (a b : Bool) → (a && b) ≡ true → (a ≡ true) × (b ≡ true)
both true b h = (refl, h)
both false b h = absurd (cc)

-- ---- places stay places

placed : (e : ℕ × ℕ) (es : List (ℕ × ℕ)) (k v : ℕ) (o : Ordering) → is_place k ≡ true → are_places (e ∷ es) ≡ true → are_places (insert_entry nat_cmp es k v) ≡ true
    → are_places (match_ordering o ((k, v) ∷ e ∷ es) ((e.0, v) ∷ es) (e ∷ insert_entry nat_cmp es k v)) ≡ true
placed e es k v Less p h later = rw (p, h) refl
placed e es k v Equal p h later = h
placed e es k v Greater p h later = rw ((both (is_place e.0) (are_places es) h).0, later) refl

pub inserted : (es : List (ℕ × ℕ)) (k v : ℕ) → is_place k ≡ true → are_places es ≡ true → are_places (insert_entry nat_cmp es k v) ≡ true
inserted [] k v p h = rw p refl
inserted (e ∷ es) k v p h = placed e es k v (nat_cmp k e.0) p h (inserted es k v p (both (is_place e.0) (are_places es) h).1)

left_out : (test : ℕ → Bool) (e : ℕ × ℕ) (es : List (ℕ × ℕ)) (v : Bool) → are_places (e ∷ es) ≡ true → are_places (remove_entry test es) ≡ true
    → are_places (if v then es else (e ∷ remove_entry test es)) ≡ true
left_out test e es true h later = (both (is_place e.0) (are_places es) h).1
left_out test e es false h later = rw ((both (is_place e.0) (are_places es) h).0, later) refl

pub removed : (test : ℕ → Bool) (es : List (ℕ × ℕ)) → are_places es ≡ true → are_places (remove_entry test es) ≡ true
removed test [] h = refl
removed test (e ∷ es) h = left_out test e es (test e.0) h (removed test es (both (is_place e.0) (are_places es) h).1)

-- ---- keys in the order of their places

is_less : (v w : Bool) → cond v Less (cond w Equal Greater) ≡ Less → v ≡ true
is_less true w h = refl
is_less false true h = absurd (cc)
is_less false false h = absurd (cc)

or_last : (a b : Bool) → b ≡ true → (a || b) ≡ true
or_last true b h = refl
or_last false b h = h

below : (a b : ℕ) → nat_lt a b ≡ true → a < b
below a b h = grind (arith, nat_tests)

before : (a b : ℕ) → nat_cmp a b ≡ Less → is_before (key_at a) (key_at b) ≡ true
before a b h =
    let less : a < b = below a b (is_less (nat_lt a b) (nat_eq a b) h) in
    ⊎_elim
    (λ (same : a / 65536 ≡ b / 65536).
    let scans : a % 65536 < b % 65536 = omega (arith, same, less) in
    or_last (nat_lt (a / 65536 + 1) (b / 65536 + 1)) (nat_eq (a / 65536 + 1) (b / 65536 + 1) && nat_lt (a % 65536) (b % 65536))
    (rw (same, eq-eqb (b / 65536 + 1) (b / 65536 + 1) refl) (lt-ltb (a % 65536) (b % 65536) scans)))
    (λ (other : a / 65536 ≢ b / 65536).
    let devices : a / 65536 + 1 < b / 65536 + 1 = omega (arith, other, less) in
    rw (lt-ltb (a / 65536 + 1) (b / 65536 + 1) devices) refl)
    (cases_eq (a / 65536) (b / 65536))

all_before : (a : ℕ) (ks : List ℕ) → AllByRecursion (λ q. nat_cmp a q ≡ Less) ks → list_all (is_before (key_at a)) (map key_at ks) ≡ true
all_before a [] h = refl
all_before a (k ∷ ks) h = rw (before a k (h.0), all_before a ks (h.1)) refl

pub keys_rise : (ks : List ℕ) → IsStrictlySortedBy nat_cmp ks → are_rising (map key_at ks) ≡ true
unfolding IsStrictlySortedBy
keys_rise [] h = refl
keys_rise (k ∷ ks) h = rw (all_before k ks (h.0), keys_rise ks (h.1)) refl

-- ---- a key is there exactly if something is due of it

of_device : (d s : ℕ) → 1 ≤ d → d ≤ 8 → s < 65536 → is_of_device d s ≡ true
of_device d s a b c = grind (arith, nat_tests)

same_key : (d s k : ℕ) → is_of_device d s ≡ true → is_place k ≡ true → (nat_eq (key_at k).device d && nat_eq (key_at k).scan s) ≡ is_eq (nat_cmp (key_place d s) k)
same_key d s k own p =
    let in_range : (1 ≤ d) × (d ≤ 8) × (s < 65536) = within_key d s own in
    ⊎_elim
    (λ (same : key_place d s ≡ k).
    let device : k / 65536 + 1 ≡ d = omega (arith, in_range, same) in
    let scan : k % 65536 ≡ s = omega (arith, in_range, same) in
    rw (unsigned_tied (key_place d s) k, device, scan, same, eq-eqb d d refl, eq-eqb s s refl, eq-eqb k k refl) refl)
    (λ (other : key_place d s ≢ k).
    rw (unsigned_tied (key_place d s) k, ne_eqb (key_place d s) k other) (not_both (k / 65536 + 1) d (k % 65536) s (λ x y. other (omega (arith, x, y)))))
    (cases_eq (key_place d s) k)

other_key : (d s k : ℕ) → is_of_device d s ≡ false → is_place k ≡ true → (nat_eq (key_at k).device d && nat_eq (key_at k).scan s) ≡ false
other_key d s k other p =
    let placed : k < 524288 = below k 524288 p in
    not_both (k / 65536 + 1) d (k % 65536) s (λ x y.
    let own : is_of_device d s ≡ true = of_device d s (omega (arith, x)) (omega (arith, x, placed)) (omega (arith, y)) in
    false≢true (sym other ∙ own))

among : (d s : ℕ) (ks : List ℕ) → is_of_device d s ≡ true → list_all is_place ks ≡ true → is_held d s (map key_at ks) ≡ list_any (λ k. is_eq (nat_cmp (key_place d s) k)) ks
among d s [] own p = refl
among d s (k ∷ ks) own p =
    let here = both (is_place k) (list_all is_place ks) p in
    rw (same_key d s k own (here.0), among d s ks own (here.1)) refl

not_among : (d s : ℕ) (ks : List ℕ) → is_of_device d s ≡ false → list_all is_place ks ≡ true → is_held d s (map key_at ks) ≡ false
not_among d s [] other p = refl
not_among d s (k ∷ ks) other p =
    let here = both (is_place k) (list_all is_place ks) p in
    rw (other_key d s k other (here.0), not_among d s ks other (here.1)) refl

held_at : (d s : ℕ) (es : List (ℕ × ℕ)) (v : Bool) → is_of_device d s ≡ v → are_places es ≡ true
    → is_held d s (map key_at (keys_of es)) ≡ is_some (if v then due_at es (key_place d s) else None)
held_at d s es true own p = among d s (keys_of es) own p ∙ sym (is_some-lookup (λ k. is_eq (nat_cmp (key_place d s) k)) es)
held_at d s es false other p = not_among d s (keys_of es) other p

pub held_exactly : (d s : ℕ) (es : List (ℕ × ℕ)) → are_places es ≡ true → is_held d s (map key_at (keys_of es)) ≡ is_some (due_kept es d s)
held_exactly d s es p = held_at d s es (is_of_device d s) refl p
