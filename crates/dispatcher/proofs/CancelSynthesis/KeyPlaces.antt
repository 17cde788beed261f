-- The index of a key among keys.
use Rattle.std.proofs.Common.{ℕ, suc, ◌≤◌, nat_lt, ◌≡◌, ◌&&◌, Bool, true, false, if◌then◌else◌, List, [], ◌∷◌, length, set, get_or, refl, sym, ap, ◌∙◌, inl, inr, arith}
use Rattle.std.specs.List.{insert}
use Rattle.std.proofs.lemmas.Bool.{cases_lt, lt-ltb, le-ltb, both_ways, and_right, and_from, true≢false}
use Rattle.input_types.specs.declared.key.KeyArgs.{KeyArgs}
use Rattle.input_types.specs.declared.key.KeyMsg.{KeyMsg}
use Rattle.dispatcher.specs.CancelSynthesis.Tracked.{same_key, is_before, keys_before, is_at, with_key}

pub place_is_low : (k : KeyArgs) (ls : List KeyMsg) → keys_before k ls ≤ length ls
place_is_low k [] = omega arith
place_is_low k (l ∷ ls) = by_order (is_before l.key k) (place_is_low k ls)
  where
    by_order : (b : Bool) → keys_before k ls ≤ length ls → (if b then suc (keys_before k ls) else 0) ≤ suc (length ls)
    by_order true r = omega (arith, r)
    by_order false r = omega arith

one_further : (a b : ℕ) → nat_lt (suc a) (suc b) ≡ nat_lt a b
one_further a b =
    elim (cases_lt a b) [
      | inl lt ↦ rw (lt-ltb a b lt, lt-ltb (suc a) (suc b) (omega (arith, lt))) refl
      | inr ge ↦ rw (le-ltb a b ge, le-ltb (suc a) (suc b) (omega (arith, ge))) refl
    ]

-- if the key is already at its index, its message is replaced there
pub replaced : (m : KeyMsg) (ls : List KeyMsg) (d : KeyMsg) → is_at m.key ls (keys_before m.key ls) d ≡ true → set ls (keys_before m.key ls) m ≡ with_key m ls
replaced m [] d h = absurd (true≢false (sym h))
replaced m (l ∷ ls) d h = by_order (is_before l.key m.key) (replaced m ls d) h
  where
    by_order : (b : Bool) → (is_at m.key ls (keys_before m.key ls) d ≡ true → set ls (keys_before m.key ls) m ≡ with_key m ls)
        → is_at m.key (l ∷ ls) (if b then suc (keys_before m.key ls) else 0) d ≡ true
        → set (l ∷ ls) (if b then suc (keys_before m.key ls) else 0) m
        ≡ (if b then l ∷ with_key m ls else if same_key l.key m.key then m ∷ ls else m ∷ l ∷ ls)
    by_order true r h =
        ap (λ xs. l ∷ xs)
        (r (ap (λ c. c && same_key (get_or ls (keys_before m.key ls) d).key m.key) (sym (one_further (keys_before m.key ls) (length ls))) ∙ h))
    by_order false r h = first (same_key l.key m.key) h
      where
        first : (c : Bool) → (nat_lt 0 (suc (length ls)) && c) ≡ true → (m ∷ ls) ≡ (if c then m ∷ ls else m ∷ l ∷ ls)
        first true h = refl
        first false h = absurd (both_ways (nat_lt 0 (suc (length ls)) && false) (and_right (nat_lt 0 (suc (length ls))) false refl) h)

-- and otherwise the message is inserted there
pub inserted : (m : KeyMsg) (ls : List KeyMsg) (d : KeyMsg) → is_at m.key ls (keys_before m.key ls) d ≡ false → insert ls (keys_before m.key ls) m ≡ with_key m ls
inserted m [] d h = refl
inserted m (l ∷ ls) d h = by_order (is_before l.key m.key) (inserted m ls d) h
  where
    by_order : (b : Bool) → (is_at m.key ls (keys_before m.key ls) d ≡ false → insert ls (keys_before m.key ls) m ≡ with_key m ls)
        → is_at m.key (l ∷ ls) (if b then suc (keys_before m.key ls) else 0) d ≡ false
        → insert (l ∷ ls) (if b then suc (keys_before m.key ls) else 0) m
        ≡ (if b then l ∷ with_key m ls else if same_key l.key m.key then m ∷ ls else m ∷ l ∷ ls)
    by_order true r h =
        ap (λ xs. l ∷ xs)
        (r (ap (λ c. c && same_key (get_or ls (keys_before m.key ls) d).key m.key) (sym (one_further (keys_before m.key ls) (length ls))) ∙ h))
    by_order false r h = first (same_key l.key m.key) h
      where
        first : (c : Bool) → (nat_lt 0 (suc (length ls)) && c) ≡ false → (m ∷ l ∷ ls) ≡ (if c then m ∷ ls else m ∷ l ∷ ls)
        first true h = absurd (both_ways (nat_lt 0 (suc (length ls)) && true) h (and_from (nat_lt 0 (suc (length ls))) true (lt-ltb 0 (suc (length ls)) (omega arith)) refl))
        first false h = refl
