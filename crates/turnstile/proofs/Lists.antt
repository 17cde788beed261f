-- Totals over views, and the calls of a number in a history.
use Rattle.std.proofs.Common.{◌≡◌, ◌≢◌, ℕ, zero, suc, ◌+◌, ◌<◌, ◌≤◌, List, [], ◌∷◌, ◌++◌, length, set, sym, refl, ap, subst, ◌∙◌, arith, Some, None, eq-eqb, ne_eqb, length-append}
use mathlib.Core.Option.{some, some-injective, some-ne-none}
use mathlib.Core.Logic.{dite}
use native.Mathlib.Decide.{ℕ_discrete}
use lib.ListN.{get_elem?}
use Rattle.turnstile.specs.History.{Entry, calls_by, IsStart, of_zero}
use Rattle.turnstile.specs.Rule.{Turn, nobody, seat, total, turn_of}

module _ {A : Type 0} (f : A → ℕ) where
  -- the total after a change of one element
  pub total_set : (l : List A) (i : ℕ) (v w : A) → get_elem? l i ≡ some v → total f (set l i w) + f v ≡ total f l + f w
  total_set [] i v w at = absurd (some-ne-none v (sym at))
  total_set (x ∷ xs) zero v w at = let e : f x ≡ f v = ap f (some-injective x v at) in omega arith
  total_set (x ∷ xs) (suc i) v w at = let e = total_set xs i v w at in omega arith

  pub total_more : (l : List A) (w : A) → total f (l ++ w ∷ []) ≡ total f l + f w
  total_more [] w = omega arith
  total_more (x ∷ xs) w = let e = total_more xs w in omega arith

  -- each element counts
  pub total_one : (l : List A) (i : ℕ) (v : A) → get_elem? l i ≡ some v → f v ≤ total f l
  total_one [] i v at = absurd (some-ne-none v (sym at))
  total_one (x ∷ xs) zero v at = let e : f x ≡ f v = ap f (some-injective x v at) in omega arith
  total_one (x ∷ xs) (suc i) v at = let e = total_one xs i v at in omega arith

  -- two elements count both
  pub total_two : (l : List A) (i j : ℕ) (v w : A) → j ≢ i → get_elem? l i ≡ some v → get_elem? l j ≡ some w → f v + f w ≤ total f l
  total_two [] i j v w ne at there = absurd (some-ne-none v (sym at))
  total_two (x ∷ xs) zero zero v w ne at there = absurd (ne refl)
  total_two (x ∷ xs) zero (suc j) v w ne at there =
      let e : f x ≡ f v = ap f (some-injective x v at) in let t = total_one xs j w there in omega arith
  total_two (x ∷ xs) (suc i) zero v w ne at there =
      let e : f x ≡ f w = ap f (some-injective x w there) in let t = total_one xs i v at in omega arith
  total_two (x ∷ xs) (suc i) (suc j) v w ne at there =
      let t = total_two xs i j v w (λ e. ne (ap suc e)) at there in omega arith

  pub total_append : (l m : List A) → total f (l ++ m) ≡ total f l + total f m
  total_append [] m = omega arith
  total_append (x ∷ xs) m = let e = total_append xs m in omega arith

pub inside : {A : Type 0} (l : List A) (i : ℕ) (a : A) → get_elem? l i ≡ some a → i < length l
inside [] i a at = absurd (some-ne-none a (sym at))
inside (x ∷ xs) zero a at = omega arith
inside (x ∷ xs) (suc i) a at = let h = inside xs i a at in omega arith

module _ {C R : Type 0} where
  -- an entry of this number is one call more
  pub calls_mine : (k : ℕ) (e : Entry C R) (h : List (Entry C R)) → e.0 ≡ k → calls_by k (e ∷ h) ≡ (length h, e.1, e.2) ∷ calls_by k h
  calls_mine k e h is = rw (eq-eqb e.0 k is) refl

  -- an entry of another number is none
  pub calls_other : (k : ℕ) (e : Entry C R) (h : List (Entry C R)) → e.0 ≢ k → calls_by k (e ∷ h) ≡ calls_by k h
  calls_other k e h ne = rw (ne_eqb e.0 k ne) refl

  -- where no number but 0 has calls, the history is that of number 0
  pub only_zero : (h : List (Entry C R)) → ((k : ℕ) → 0 < k → calls_by k h ≡ []) → of_zero (calls_by 0 h) ≡ h
  only_zero [] none_else = refl
  only_zero (e ∷ h) none_else =
      dite (ℕ_discrete e.0 0)
      (λ z.
      let rest : of_zero (calls_by 0 h) ≡ h = only_zero h (λ k above. sym (calls_other k e h (λ (s : e.0 ≡ k). omega arith)) ∙ none_else k above) in
      let same : (0, e.1, e.2) ≡ e = λ i. (sym z i, e.1, e.2) in
      ap of_zero (calls_mine 0 e h z) ∙ (λ i. same i ∷ rest i))
      (λ nz. absurd (let m : calls_by e.0 (e ∷ h) ≡ (length h, e.1, e.2) ∷ calls_by e.0 h = calls_mine e.0 e h refl in let n : calls_by e.0 (e ∷ h) ≡ [] = none_else e.0 (omega arith) in let bad : (length h, e.1, e.2) ∷ calls_by e.0 h ≡ [] = sym m ∙ n in cc))

  -- what was known stays known
  pub longer_start : (start h : List (Entry C R)) (e : Entry C R) → IsStart start h → IsStart start (e ∷ h)
  longer_start start h e s = (e ∷ s.0, ap (λ t. e ∷ t) s.1)

  pub start_length : (start h : List (Entry C R)) → IsStart start h → length start ≤ length h
  start_length start h s = omega (arith, ap length s.1, length-append s.0 start)

  -- the whole of a history is a start of it
  pub start_whole : (h : List (Entry C R)) → IsStart h h
  start_whole h = ([], refl)

  -- the seat with the turn knows the history
  pub turn_mine : (i : ℕ) (h : List (Entry C R)) → turn_of (seat i) i h ≡ Some h
  turn_mine i h = rw (eq-eqb i i refl) refl

  pub turn_other : (i j : ℕ) (h : List (Entry C R)) → j ≢ i → turn_of (seat i) j h ≡ None
  turn_other i j h ne = rw (ne_eqb j i ne) refl

  pub turn_some : (t : Turn) (j : ℕ) (h known : List (Entry C R)) → turn_of t j h ≡ Some known → (t ≡ seat j) × (h ≡ known)
  turn_some nobody j h known e = absurd (cc)
  turn_some (seat i) j h known e =
      dite (ℕ_discrete j i)
      (λ same. let m : Some h ≡ Some known = sym (subst (λ n. turn_of (seat n) j h ≡ Some h) same (turn_mine j h)) ∙ e in (ap seat (sym same), cc))
      (λ ne. absurd (let m : None ≡ Some known = sym (turn_other i j h ne) ∙ e in cc))
