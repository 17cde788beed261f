-- The meta bits of the keys that are down.
use Rattle.std.specs.Prelude.{◌≡◌, ℕ, ◌+◌, ◌&&◌, ◌||◌, nat_eq, nat_lt, Bool, true, false, List, [], ◌∷◌, slice_get, Some, None, if◌then◌else◌}
use Rattle.std.specs.Bool.{Decides, one_answer}
use Rattle.std.specs.List.{list_any}
use Rattle.std.specs.List.Sorted.{IsStrictlySortedBy}
use Rattle.std.specs.Map.{keys_of, values_of}
use Rattle.std.specs.Ordering.{nat_cmp}
use Rattle.std.proofs.Common.{sym, ◌∙◌, ap, subst, refl, inl, inr, ◌⊎◌, eq-eqb}
use Rattle.std.proofs.lemmas.Bool.{eqb-true, and_parts, and_from, or_left, or_right, or_cases}
use Rattle.std.proofs.lemmas.Cmp.{nat_cmp_total, eq_by_cmp_equiv}
use Rattle.std.proofs.lemmas.Map.Entries.{lookup_from_place}
use Rattle.std.proofs.lemmas.Map.Keys.{IsDistinct-from_sorted}
use Rattle.key_layout.specs.Layout.{Codes, found_at, code_at}
use Rattle.key_mapper.specs.Key.{KeyEvent, is_press, is_release, is_down, has_down, bits_where, meta_bits, meta_of}
use Rattle.key_mapper.specs.declared.modifiers.Modifiers.{Modifiers}
use Rattle.key_mapper.specs.Held.{Held, KeysStandFor, count, counts, bits, sets_meta, with_key, without_key}
use Rattle.key_mapper.proofs.Counts.{count_found, count_some}

-- an element that passes a test, and the test of the list
found_in_at : {X : Type 0} (p : X → Bool) (x : X) (xs : List X) → (p x ≡ true) ⊎ (list_any p xs ≡ true) → (list_any p xs ≡ true → (y : X) × (p y ≡ true)) → (y : X) × (p y ≡ true)
found_in_at p x xs (inl here) later = (x, here)
found_in_at p x xs (inr there) later = later there

found_in : {X : Type 0} (p : X → Bool) (xs : List X) → list_any p xs ≡ true → (x : X) × (p x ≡ true)
found_in p [] h = absurd (cc)
found_in p (x ∷ xs) h = found_in_at p x xs (or_cases (p x) (list_any p xs) h) (λ t. found_in p xs t)

-- a code of the list that passes one test passes another one
any_of_at : (p q : ℕ → Bool) (c : ℕ) (cs : List ℕ) → ((c : ℕ) → p c ≡ true → q c ≡ true) → (p c ≡ true) ⊎ (list_any p cs ≡ true)
    → (list_any p cs ≡ true → list_any q cs ≡ true) → list_any q (c ∷ cs) ≡ true
any_of_at p q c cs is (inl here) later = or_left (q c) (list_any q cs) (is c here)
any_of_at p q c cs is (inr there) later = or_right (q c) (list_any q cs) (later there)

any_of : (p q : ℕ → Bool) (cs : List ℕ) → ((c : ℕ) → p c ≡ true → q c ≡ true) → list_any p cs ≡ true → list_any q cs ≡ true
any_of p q [] is h = h
any_of p q (c ∷ cs) is h = any_of_at p q c cs is (or_cases (p c) (list_any p cs) h) (λ t. any_of p q cs is t)

-- a key that is down is that of some event
event_at : (p : ℕ → Bool) (s : ℕ) (e : KeyEvent) (past : List KeyEvent) (t : Bool) → nat_eq s e.scan ≡ t → p s ≡ true
    → (if t && (is_press e || is_release e) then is_press e else is_down s past) ≡ true → (is_down s past ≡ true → list_any (λ (x : KeyEvent). p x.scan) past ≡ true)
    → list_any (λ (x : KeyEvent). p x.scan) (e ∷ past) ≡ true
event_at p s e past true is ps d later = or_left (p e.scan) (list_any (λ (x : KeyEvent). p x.scan) past) (ap p (sym (eqb-true s e.scan is)) ∙ ps)
event_at p s e past false is ps d later = or_right (p e.scan) (list_any (λ (x : KeyEvent). p x.scan) past) (later d)

event_of : (p : ℕ → Bool) (s : ℕ) (past : List KeyEvent) → p s ≡ true → is_down s past ≡ true → list_any (λ (x : KeyEvent). p x.scan) past ≡ true
event_of p s [] ps d = absurd (cc)
event_of p s (e ∷ past) ps d = event_at p s e past (nat_eq s e.scan) refl ps d (λ h. event_of p s past ps h)

-- a key with one of these codes is down
abbrev HasKey : Codes → List KeyEvent → List ℕ → Type 0
HasKey layout past codes = (s : ℕ) × (is_down s past ≡ true) × (list_any (λ code. nat_eq code (code_at layout s)) codes ≡ true)

by_events : (layout : Codes) (past : List KeyEvent) (codes : List ℕ) → Decides (has_down layout past codes) (HasKey layout past codes)
by_events layout past codes = (
  λ h.
      let it : (e : KeyEvent) × ((is_down e.scan past && list_any (λ code. nat_eq code (code_at layout e.scan)) codes) ≡ true) =
      found_in (λ (e : KeyEvent). is_down e.scan past && list_any (λ code. nat_eq code (code_at layout e.scan)) codes) past h in
      let both : (is_down it.0.scan past ≡ true) × (list_any (λ code. nat_eq code (code_at layout it.0.scan)) codes ≡ true) =
      and_parts (is_down it.0.scan past) (list_any (λ code. nat_eq code (code_at layout it.0.scan)) codes) it.1 in
      (it.0.scan, both.0, both.1),
  λ k. event_of (λ s. is_down s past && list_any (λ code. nat_eq code (code_at layout s)) codes) k.0 past
      (and_from (is_down k.0 past) (list_any (λ code. nat_eq code (code_at layout k.0)) codes) k.1 k.2) k.1,
)

down_code : (layout : Codes) (s code : ℕ) (d : Bool) → Some code ≡ (if d then Some (code_at layout s) else None) → (d ≡ true) × (code ≡ code_at layout s)
down_code layout s code true e = (refl, let f : code ≡ code_at layout s = cc in f)
down_code layout s code false e = absurd (cc)

key_of_code : (k : Held) (past : List KeyEvent) (code : ℕ) → KeysStandFor past k → IsStrictlySortedBy nat_cmp (keys_of k.down)
    → nat_lt 0 (count code (values_of k.down)) ≡ true → (s : ℕ) × (is_down s past ≡ true) × (code ≡ code_at k.layout s)
key_of_code k past code stands sorted some =
    let it : (i : ℕ) × (scan : ℕ) × (slice_get k.down i ≡ Some (scan, code)) = count_found code k.down some in
    let found : found_at k.down it.1 ≡ Some code =
    lookup_from_place (eq_by_cmp_equiv nat_cmp_total) k.down it.0 it.1 code (IsDistinct-from_sorted nat_cmp (keys_of k.down) sorted) it.2 in
    let is : (is_down it.1 past ≡ true) × (code ≡ code_at k.layout it.1) = down_code k.layout it.1 code (is_down it.1 past) (sym found ∙ stands it.1) in
    (it.1, is.0, is.1)

found_code_at : (p q : ℕ → Bool) (c : ℕ) (cs : List ℕ) → (p c ≡ true) ⊎ (list_any p cs ≡ true) → (list_any p cs ≡ true → (x : ℕ) × (p x ≡ true) × (list_any (λ y. nat_eq y x) cs ≡ true))
    → (x : ℕ) × (p x ≡ true) × (list_any (λ y. nat_eq y x) (c ∷ cs) ≡ true)
found_code_at p q c cs (inl here) later = (c, here, or_left (nat_eq c c) (list_any (λ y. nat_eq y c) cs) (eq-eqb c c refl))
found_code_at p q c cs (inr there) later =
    let l : (x : ℕ) × (p x ≡ true) × (list_any (λ y. nat_eq y x) cs ≡ true) = later there in
    (l.0, l.1, or_right (nat_eq c l.0) (list_any (λ y. nat_eq y l.0) cs) l.2)

found_code : (p : ℕ → Bool) (cs : List ℕ) → list_any p cs ≡ true → (x : ℕ) × (p x ≡ true) × (list_any (λ y. nat_eq y x) cs ≡ true)
found_code p [] h = absurd (cc)
found_code p (c ∷ cs) h = found_code_at p p c cs (or_cases (p c) (list_any p cs) h) (λ t. found_code p cs t)

by_counts : (k : Held) (past : List KeyEvent) (codes : List ℕ) → KeysStandFor past k → IsStrictlySortedBy nat_cmp (keys_of k.down)
    → Decides (list_any (λ code. nat_lt 0 (count code (values_of k.down))) codes) (HasKey k.layout past codes)
by_counts k past codes stands sorted = (
  λ h.
      let it : (x : ℕ) × (nat_lt 0 (count x (values_of k.down)) ≡ true) × (list_any (λ y. nat_eq y x) codes ≡ true) = found_code (λ code. nat_lt 0 (count code (values_of k.down))) codes h in
      let key : (s : ℕ) × (is_down s past ≡ true) × (it.0 ≡ code_at k.layout s) = key_of_code k past it.0 stands sorted it.1 in
      (key.0, key.1, subst (λ x. list_any (λ y. nat_eq y x) codes ≡ true) key.2 it.2),
  λ d.
      let found : found_at k.down d.0 ≡ Some (code_at k.layout d.0) = stands d.0 ∙ ap (λ (b : Bool). if b then Some (code_at k.layout d.0) else None) d.1 in
      let some : nat_lt 0 (count (code_at k.layout d.0) (values_of k.down)) ≡ true = count_some (code_at k.layout d.0) k.down d.0 found in
      any_of (λ code. nat_eq code (code_at k.layout d.0)) (λ code. nat_lt 0 (count code (values_of k.down))) codes
      (λ c e. ap (λ x. nat_lt 0 (count x (values_of k.down))) (eqb-true c (code_at k.layout d.0) e) ∙ some) d.2,
)

same_bits : (f g : List ℕ → Bool) (rows : List (ℕ × List ℕ)) → ((codes : List ℕ) → f codes ≡ g codes) → bits_where f rows ≡ bits_where g rows
same_bits f g [] same = refl
same_bits f g (row ∷ rows) same =
    ap (λ (t : Bool). (if t then row.0 else 0) + bits_where f rows) (same row.1)
    ∙ ap (λ n. (if g row.1 then row.0 else 0) + n) (same_bits f g rows same)

-- the bits that the counts give are those of the keys that are down
pub meta_is : (k : Held) (past : List KeyEvent) → KeysStandFor past k → IsStrictlySortedBy nat_cmp (keys_of k.down) → bits (counts k.down) ≡ meta_of k.layout past
meta_is k past stands sorted =
    same_bits (λ codes. list_any (λ code. nat_lt 0 (count code (values_of k.down))) codes) (has_down k.layout past) meta_bits
    (λ codes. one_answer (list_any (λ code. nat_lt 0 (count code (values_of k.down))) codes) (has_down k.layout past codes) (by_counts k past codes stands sorted) (by_events k.layout past codes))

-- ---- a key that sets no meta bit

or_neither : (a b : Bool) → (a || b) ≡ false → (a ≡ false) × (b ≡ false)
or_neither true b h = absurd (cc)
or_neither false b h = (refl, h)

-- it is none of the codes that are counted
abbrev IsOther : ℕ → Type 0
IsOther c =
    (nat_eq c 57 ≡ false) × (nat_eq c 58 ≡ false) × (nat_eq c 59 ≡ false) × (nat_eq c 60 ≡ false) × (nat_eq c 113 ≡ false) × (nat_eq c 114 ≡ false)

is_other : (c : ℕ) → sets_meta c ≡ false → IsOther c
is_other c h =
    let one = or_neither (nat_eq c 57) (nat_eq c 58 || (nat_eq c 59 || (nat_eq c 60 || (nat_eq c 113 || nat_eq c 114)))) h in
    let two = or_neither (nat_eq c 58) (nat_eq c 59 || (nat_eq c 60 || (nat_eq c 113 || nat_eq c 114))) one.1 in
    let three = or_neither (nat_eq c 59) (nat_eq c 60 || (nat_eq c 113 || nat_eq c 114)) two.1 in
    let four = or_neither (nat_eq c 60) (nat_eq c 113 || nat_eq c 114) three.1 in
    let five = or_neither (nat_eq c 113) (nat_eq c 114) four.1 in
    (one.0, two.0, three.0, four.0, five.0, five.1)

other_more : (m : Modifiers) (c : ℕ) → IsOther c → with_key m c ≡ m
other_more m c h = rw (h.0, h.1, h.2, h.3, h.4, h.5) refl

other_fewer : (m : Modifiers) (c : ℕ) → IsOther c → without_key m c ≡ m
other_fewer m c h = rw (h.0, h.1, h.2, h.3, h.4, h.5) refl

more_at : (m : Modifiers) (c meta : ℕ) (b : Bool) → meta ≡ bits m → (b ≡ false → with_key m c ≡ m) → (if b then bits (with_key m c) else meta) ≡ bits (with_key m c)
more_at m c meta true told same = refl
more_at m c meta false told same = told ∙ ap (λ n. bits n) (sym (same refl))

-- the meta bits with one key more
pub bits_more : (m : Modifiers) (c meta : ℕ) → meta ≡ bits m → (if sets_meta c then bits (with_key m c) else meta) ≡ bits (with_key m c)
bits_more m c meta told = more_at m c meta (sets_meta c) told (λ h. other_more m c (is_other c h))

fewer_at : (m : Modifiers) (c meta : ℕ) (b : Bool) → meta ≡ bits m → (b ≡ false → without_key m c ≡ m)
    → (if b then bits (without_key m c) else meta) ≡ bits (without_key m c)
fewer_at m c meta true told same = refl
fewer_at m c meta false told same = told ∙ ap (λ n. bits n) (sym (same refl))

-- the meta bits with one key less
pub bits_fewer : (m : Modifiers) (c meta : ℕ) → meta ≡ bits m → (if sets_meta c then bits (without_key m c) else meta) ≡ bits (without_key m c)
bits_fewer m c meta told = fewer_at m c meta (sets_meta c) told (λ h. other_fewer m c (is_other c h))
