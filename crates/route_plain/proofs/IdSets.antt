-- What the sets of ids of holds have.
use Rattle.std.proofs.Common.{◌≡◌, ℕ, Bool, true, false, ◌&&◌, ◌||◌, ◌==◌, cond, List, [], ◌∷◌, refl, ap, sym, ◌∙◌, inl, inr}
use Rattle.std.specs.Prelude.{fold, filter}
use Rattle.std.proofs.lemmas.Bool.{cases_eq, eq-eqb, ne_eqb}
use Rattle.std.proofs.lemmas.Nat.Bits.{bit_at-zero}
use Rattle.std.proofs.Math.Path.{fun_ext}
use Rattle.bits32.specs.Set.{is_in, marked}
use Rattle.bits32.proofs.Members.{is_in_marked}
use Rattle.routing_rules.specs.Pairs.{has}
use Rattle.route_plain.specs.declared.hold.Hold.{Hold}
use Rattle.route_plain.specs.Holds.{pairs_of, is_of, ids_with}

-- two numbers are sent equal either way
pub either_way : (i j : ℕ) → (i == j) ≡ (j == i)
either_way i j =
    elim (cases_eq i j) [
      | inl e ↦ eq-eqb i j e ∙ sym (eq-eqb j i (sym e))
      | inr ne ↦ ne_eqb i j ne ∙ sym (ne_eqb j i (λ h. ne (sym h)))
    ]

pub or_false : (b : Bool) → b ≡ (b || false)
or_false true = refl
or_false false = refl

one_more : (b : Bool) (x t r : Bool) → b ≡ true → ((t || x) || r) ≡ (x || ((b && t) || r))
one_more b true true r e = refl
one_more b true false r e = refl
one_more b false true r e = ap (λ c. (c && true) || r) (sym e)
one_more b false false r e = ap (λ c. (c && false) || r) (sym e)

none_more : (b : Bool) (x t r : Bool) → b ≡ false → (x || r) ≡ (x || ((b && t) || r))
none_more b true t r e = refl
none_more b false t r e = ap (λ c. (c && t) || r) (sym e)

-- the ids of a list of holds, put into a set
with_first : (h : Hold) (hs : List Hold) (s w d i : ℕ)
    → ((t : ℕ) → is_in i (ids_with t hs w d) ≡ (is_in i t || has (pairs_of hs) w d i))
    → (b : Bool) → is_of w d h ≡ b
    → is_in i (fold (λ s h. marked h.id s) s (cond b (h ∷ filter (is_of w d) hs) (filter (is_of w d) hs))) ≡ (is_in i s || has (pairs_of (h ∷ hs)) w d i)
with_first h hs s w d i others true e =
    others (marked h.id s)
    ∙ ap (λ b. b || has (pairs_of hs) w d i) (is_in_marked i h.id s ∙ ap (λ b. b || is_in i s) (either_way i h.id))
    ∙ one_more (is_of w d h) (is_in i s) (h.id == i) (has (pairs_of hs) w d i) e
with_first h hs s w d i others false e = others s ∙ none_more (is_of w d h) (is_in i s) (h.id == i) (has (pairs_of hs) w d i) e

pub in-ids_with : (hs : List Hold) (s w d i : ℕ) → is_in i (ids_with s hs w d) ≡ (is_in i s || has (pairs_of hs) w d i)
in-ids_with [] s w d i = or_false (is_in i s)
in-ids_with (h ∷ hs) s w d i = with_first h hs s w d i (λ t. in-ids_with hs t w d i) (is_of w d h) refl

-- the ids of a list of holds
pub in-ids : (hs : List Hold) (w d i : ℕ) → is_in i (ids_with 0 hs w d) ≡ has (pairs_of hs) w d i
in-ids hs w d i = in-ids_with hs 0 w d i ∙ ap (λ b. b || has (pairs_of hs) w d i) (ap (λ b. b == 1) (bit_at-zero i))

pub ids_are : (hs : List Hold) (w d : ℕ) → (λ i. is_in i (ids_with 0 hs w d)) ≡ has (pairs_of hs) w d
ids_are hs w d = fun_ext (in-ids hs w d)

-- equal numbers are equal sets
pub sets_are : (m n : ℕ) → m ≡ n → ◌≡◌ {A = ℕ → Bool} (λ i. is_in i m) (λ i. is_in i n)
sets_are m n e = λ k. λ i. is_in i (e k)
