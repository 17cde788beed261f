-- Masks as sets of channels.
use Rattle.std.proofs.Common.{◌≡◌, ℕ, ◌+◌, ◌-◌, ◌^◌, ◌<◌, Bool, true, false, ◌&&◌, ◌||◌, cond, List, [], ◌∷◌, refl, ap, sym, ◌∙◌, arith, inl, inr}
use Rattle.std.specs.Prelude.{◌==◌, bit_or, fold, filter, nat_lt, nat_le}
use Rattle.std.specs.Int.{bit_at}
use Rattle.std.proofs.lemmas.Bool.{cases_eq, eq-eqb, ne_eqb, and_parts, and_left, and_right, or_right, ltb-true, both_ways, false_from_ne_true, eqb-true, eqb-false, lt-ltb, lt-leb, le-leb, and_from}
use Rattle.std.proofs.lemmas.Nat.Bits.{bit_at_or, bit_at-pow_same, bit_at-pow_other, bit_at-lt, bit_at-zero, same_from_bits_below}
use Rattle.window_snapshot.specs.declared.window.Window.{Window}
use Rattle.window_snapshot.specs.Mask.{is_channel, mask_has, mask_with}
use Rattle.window_snapshot.specs.MaskOf.{mask_of}
use Rattle.window_snapshot.specs.Named.{is_named}
use Rattle.window_snapshot.specs.Walls.{wall_on}
use Rattle.window_snapshot.proofs.Naming.{named_passes}

or_false : (t u : Bool) → u ≡ false → t ≡ (t || u)
or_false true u e = refl
or_false false u e = sym e

and_or : (k t u : Bool) → (k && (t || u)) ≡ ((k && t) || (k && u))
and_or true t u = refl
and_or false t u = refl

regroup : (a k t u : Bool) → ((a || (k && t)) || (k && u)) ≡ (a || (k && (t || u)))
regroup true k t u = refl
regroup false true t u = refl
regroup false false t u = refl

-- a bit set in a number
bit_at-or_pow : (n k i : ℕ) → (bit_at (bit_or n (2 ^ k)) i == 1) ≡ ((bit_at n i == 1) || (k == i))
bit_at-or_pow n k i =
    let both = bit_at_or n (2 ^ k) i in
    let few = bit_at-lt n i in
    elim (cases_eq k i) [
      | inl e ↦
          let here : bit_at (2 ^ k) i ≡ 1 = ap (λ m. bit_at (2 ^ m) i) e ∙ bit_at-pow_same i in
          let set : bit_at (bit_or n (2 ^ k)) i ≡ 1 = omega arith in
          eq-eqb _ _ set ∙ sym (or_right (bit_at n i == 1) (k == i) (eq-eqb k i e))
      | inr ne ↦
          let there : bit_at (2 ^ k) i ≡ 0 = bit_at-pow_other k i (λ h. ne (sym h)) in
          let kept : bit_at (bit_or n (2 ^ k)) i ≡ bit_at n i = omega arith in
          ap (λ b. b == 1) kept ∙ or_false (bit_at n i == 1) (k == i) (ne_eqb k i ne)
    ]

channel_pos : (c : ℕ) → is_channel c ≡ true → 0 < c
channel_pos c e = ltb-true 0 c (and_parts _ _ e).0

-- two channels have one bit where they are one
same_bit : (d c : ℕ) (k : Bool) → is_channel d ≡ true → is_channel c ≡ k → (k && (d - 1 == c - 1)) ≡ (k && (d == c))
same_bit d c true e f =
    let from_d = channel_pos d e in
    let from_c = channel_pos c f in
    elim (cases_eq d c) [
      | inl same ↦ eq-eqb (d - 1) (c - 1) (omega arith) ∙ sym (eq-eqb d c same)
      | inr ne ↦ ne_eqb (d - 1) (c - 1) (λ h. ne (omega arith)) ∙ sym (ne_eqb d c ne)
    ]
same_bit d c false e f = refl

no_channel : (d c : ℕ) → is_channel d ≡ false → (is_channel c && (d == c)) ≡ false
no_channel d c e =
    elim (cases_eq d c) [
      | inl same ↦ and_left (is_channel c) (d == c) (ap is_channel (sym same) ∙ e)
      | inr ne ↦ and_right (is_channel c) (d == c) (ne_eqb d c ne)
    ]

mask_has-with_at :
    (mask d c : ℕ) (b : Bool)
    → is_channel d ≡ b
    → mask_has (cond b (bit_or mask (2 ^ (d - 1))) mask) c ≡ (mask_has mask c || (is_channel c && (d == c)))
mask_has-with_at mask d c true e =
    ap (λ t. is_channel c && t) (bit_at-or_pow mask (d - 1) (c - 1))
    ∙ and_or (is_channel c) (bit_at mask (c - 1) == 1) (d - 1 == c - 1)
    ∙ ap (λ t. mask_has mask c || t) (same_bit d c (is_channel c) e refl)
mask_has-with_at mask d c false e = or_false (mask_has mask c) _ (no_channel d c e)

-- a mask with a further channel
pub mask_has-with : (mask d c : ℕ) → mask_has (mask_with mask d) c ≡ (mask_has mask c || (is_channel c && (d == c)))
mask_has-with mask d c = mask_has-with_at mask d c (is_channel d) refl

mask_has-fold :
    (ws : List Window) (mask c : ℕ)
    → mask_has (fold (λ mask w. mask_with mask w.channel) mask ws) c ≡ (mask_has mask c || (is_channel c && is_named ws c))
mask_has-fold [] mask c = or_false (mask_has mask c) _ (and_right (is_channel c) false refl)
mask_has-fold (w ∷ ws) mask c =
    mask_has-fold ws (mask_with mask w.channel) c
    ∙ ap (λ t. t || (is_channel c && is_named ws c)) (mask_has-with mask w.channel c)
    ∙ regroup (mask_has mask c) (is_channel c) (w.channel == c) (is_named ws c)

-- no channel is in the mask 0
pub mask_has-zero : (c : ℕ) → mask_has 0 c ≡ false
mask_has-zero c = and_right (is_channel c) _ (ap (λ b. b == 1) (bit_at-zero (c - 1)))

-- the mask of windows has their channels
pub mask_has-mask_of : (ws : List Window) (c : ℕ) → mask_has (mask_of ws) c ≡ (is_channel c && is_named ws c)
mask_has-mask_of ws c = mask_has-fold ws 0 c ∙ ap (λ t. t || (is_channel c && is_named ws c)) (mask_has-zero c)

named_by_channel :
    (p : Window → Bool)
    → ((w : Window) → p w ≡ true → is_channel w.channel ≡ true)
    → (ws : List Window)
    → (c : ℕ)
    → (k : Bool)
    → is_channel c ≡ k
    → (k && is_named (filter p ws) c) ≡ is_named (filter p ws) c
named_by_channel p live ws c true e = refl
named_by_channel p live ws c false e =
    sym (false_from_ne_true _ (λ named. both_ways _ e (named_passes p is_channel live c ws named)))

-- the mask of the live windows that pass names just those
pub mask_has-live :
    (p : Window → Bool)
    → ((w : Window) → p w ≡ true → is_channel w.channel ≡ true)
    → (ws : List Window)
    → (c : ℕ)
    → mask_has (mask_of (filter p ws)) c ≡ is_named (filter p ws) c
mask_has-live p live ws c = mask_has-mask_of (filter p ws) c ∙ named_by_channel p live ws c (is_channel c) refl

-- a mask has channels alone
pub mask_has_channel : (mask c : ℕ) → mask_has mask c ≡ true → is_channel c ≡ true
mask_has_channel mask c e = (and_parts _ _ e).0

-- a wall has no channel, so it is in no mask
pub mask_has-wall : (mask y : ℕ) → mask_has mask (wall_on y) ≡ false
mask_has-wall mask y = ap (λ k. k && (bit_at mask (65 + y - 1) == 1)) (no_number y)
  where
    no_number : (y : ℕ) → is_channel (65 + y) ≡ false
    no_number y = and_right (nat_lt 0 (65 + y)) (nat_le (65 + y) 64) (lt-leb (65 + y) 64 (omega arith))

same_bit_at : (a b : ℕ) → a < 2 → b < 2 → (a == 1) ≡ (b == 1) → a ≡ b
same_bit_at a b h k e =
    elim (cases_eq a 1) [
      | inl one ↦ one ∙ sym (eqb-true b 1 (sym e ∙ eq-eqb a 1 one))
      | inr ne ↦ let other : b ≡ 1 → ⊥ = eqb-false b 1 (sym e ∙ ne_eqb a 1 ne) in omega arith
    ]

bit_of_channel : (mask i : ℕ) → i < 64 → mask_has mask (i + 1) ≡ (bit_at mask i == 1)
bit_of_channel mask i lt =
    let channel : is_channel (i + 1) ≡ true = and_from _ _ (lt-ltb 0 (i + 1) (omega arith)) (le-leb (i + 1) 64 (omega arith)) in
    let back : i + 1 - 1 ≡ i = omega arith in
    ap (λ k. k && (bit_at mask (i + 1 - 1) == 1)) channel ∙ ap (λ j. bit_at mask j == 1) back

-- masks with the same channels are the same number
pub same_mask : (a b : ℕ) → a < 2 ^ 64 → b < 2 ^ 64 → ((c : ℕ) → mask_has a c ≡ mask_has b c) → a ≡ b
same_mask a b h k e =
    same_from_bits_below 64 a b h k (λ i lt. same_bit_at (bit_at a i) (bit_at b i) (bit_at-lt a i) (bit_at-lt b i)
    (sym (bit_of_channel a i lt) ∙ e (i + 1) ∙ bit_of_channel b i lt))
