-- What is held after a turn.
use Rattle.std.proofs.Common.{◌≡◌, ℕ, ◌-◌, ◌<◌, min, Bool, true, false, not, ◌&&◌, ◌||◌, ◌==◌, cond, List, [], ◌∷◌, refl, ap, ◌∙◌, arith, inl, inr}
use Rattle.std.specs.Prelude.{bit_and}
use Rattle.std.proofs.Math.Path.{fun_ext}
use Rattle.std.proofs.lemmas.Bool.{cases_eq}
use Rattle.std.proofs.lemmas.Nat.Bits.{bit_at_and, bit_at-lt}
use Rattle.bits32.specs.Set.{is_in}
use Rattle.window_snapshot.specs.Mask.{is_channel, mask_has}
use Rattle.routing_rules.specs.Pairs.{has}
use Rattle.routing_rules.specs.Taking.{Taking, takes}
use Rattle.routing_rules.specs.Marks.{kept}
use Rattle.routing_rules.proofs.HoldingLaws.{has-kept}
use Rattle.route_plain.specs.declared.hold.Hold.{Hold}
use Rattle.route_plain.specs.Holds.{pairs_of, ids_with}
use Rattle.route_plain.specs.Route.{holds_left}
use Rattle.route_plain.proofs.IdSets.{in-ids_with, in-ids}

-- the pairs of what is left are those that are left
pub pairs_of-left : (t : Taking) (hs : List Hold) → pairs_of (holds_left t hs) ≡ kept t (pairs_of hs)
pairs_of-left t [] = refl
pairs_of-left t (h ∷ hs) = first (takes t h.window h.device h.id) (pairs_of-left t hs)
  where
    first : (b : Bool) → pairs_of (holds_left t hs) ≡ kept t (pairs_of hs)
        → pairs_of (cond (not b) (h ∷ holds_left t hs) (holds_left t hs))
        ≡ cond (not b) (record { window = h.window; device = h.device; id = h.id } ∷ kept t (pairs_of hs)) (kept t (pairs_of hs))
    first true e = e
    first false e = ap (λ qs. record { window = h.window; device = h.device; id = h.id } ∷ qs) e

and_true : (x : Bool) → x ≡ (x && true)
and_true true = refl
and_true false = refl

pub and_comm : (n x : Bool) → (n && x) ≡ (x && n)
and_comm true true = refl
and_comm true false = refl
and_comm false true = refl
and_comm false false = refl

or_comm : (x g : Bool) → (x || g) ≡ (g || x)
or_comm true true = refl
or_comm true false = refl
or_comm false true = refl
or_comm false false = refl

-- the ids of a window where nothing is taken
pub kept_all : (hs : List Hold) (w d i : ℕ) → is_in i (ids_with 0 hs w d) ≡ (has (pairs_of hs) w d i && true)
kept_all hs w d i = in-ids hs w d i ∙ and_true (has (pairs_of hs) w d i)

-- and where something is
pub kept_left : (t : Taking) (hs : List Hold) (w d i : ℕ)
    → is_in i (ids_with 0 (holds_left t hs) w d) ≡ (has (pairs_of hs) w d i && not (takes t w d i))
kept_left t hs w d i =
    in-ids (holds_left t hs) w d i
    ∙ ap (λ qs. has qs w d i) (pairs_of-left t hs)
    ∙ has-kept t (pairs_of hs) w d i
    ∙ and_comm (not (takes t w d i)) (has (pairs_of hs) w d i)

-- with what is gained
pub held_after : (gained : List Hold) (left w d : ℕ) (f : ℕ → Bool) → ((i : ℕ) → is_in i left ≡ f i)
    → ◌≡◌ {A = ℕ → Bool} (λ i. is_in i (ids_with left gained w d)) (λ i. has (pairs_of gained) w d i || f i)
held_after gained left w d f e =
    fun_ext
    (λ i. in-ids_with gained left w d i ∙ ap (λ b. b || has (pairs_of gained) w d i) (e i) ∙ or_comm (f i) (has (pairs_of gained) w d i))

-- two bits that are both set
min_is_and : (m n : ℕ) → m < 2 → n < 2 → (min m n == 1) ≡ (m == 1 && n == 1)
min_is_and m n p q =
    elim (cases_eq m 0) [
      | inl z ↦ elim (cases_eq n 0) [ inl y ↦ rw (z, y) refl | inr y ↦ let o : n ≡ 1 = omega arith in rw (z, o) refl ]
      | inr z ↦
          let u : m ≡ 1 = omega arith in
          elim (cases_eq n 0) [ inl y ↦ rw (u, y) refl | inr y ↦ let o : n ≡ 1 = omega arith in rw (u, o) refl ]
    ]

-- a channel is in both of two masks
pub mask_has-and : (a b c : ℕ) → mask_has (bit_and a b) c ≡ (mask_has a c && mask_has b c)
mask_has-and a b c = ap (λ t. is_channel c && t) (ap (λ n. n == 1) (bit_at_and a b (c - 1)) ∙ min_is_and _ _ (bit_at-lt a (c - 1)) (bit_at-lt b (c - 1))) ∙ spread (is_channel c) _ _
  where
    spread : (k t u : Bool) → (k && (t && u)) ≡ ((k && t) && (k && u))
    spread true t u = refl
    spread false t u = refl
