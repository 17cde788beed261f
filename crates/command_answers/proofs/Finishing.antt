-- The mask of the channels whose owners finish what they are given.
use Rattle.std.proofs.Common.{◌≡◌, ◌∙◌, ◌≤◌, ℕ, ◌+◌, ◌<◌, Bool, true, false, List, ◌∷◌, ◌||◌, ◌&&◌, map, cond, sym, refl, ap, arith, ◌-◌, zero, suc, length, take, drop, slice_index_or, []}
use Rattle.std.specs.Prelude.{◌==◌}
use Rattle.std.proofs.lemmas.Bool.{lt-ltb, le-leb, and_from, or_right, eqb-true, eq-eqb, ne_eqb, true≢false}
use Rattle.window_snapshot.specs.Mask.{is_channel, mask_has, mask_with}
use Rattle.window_snapshot.proofs.Masks.{mask_has-with, mask_has-zero}
use Rattle.dispatch_history.specs.Plan.{ChannelOf}
use Rattle.command_answers.specs.Race.{finishes_from}

or_none : (a b : Bool) → b ≡ false → (a || b) ≡ a
or_none true b e = refl
or_none false b e = e

and_none : (a b : Bool) → b ≡ false → (a && b) ≡ false
and_none true b e = e
and_none false b e = refl

is_number : (c : ℕ) → 1 ≤ c → c ≤ 64 → is_channel c ≡ true
is_number c low high = and_from _ _ (lt-ltb 0 c (omega (arith, low))) (le-leb c 64 high)

-- a number below the first one is that of no channel that finishes
below : (c k : ℕ) (ps : List ChannelOf) → c < k → finishes_from k ps c ≡ false
below c k [] lt = refl
below c k (p ∷ ps) lt =
    ap (λ b. cond b p.finishes (finishes_from (k + 1) ps c)) (ne_eqb c k (λ e. omega (arith, lt, e))) ∙ below c (k + 1) ps (omega (arith, lt))

here_or_behind : (number c : ℕ) (p : ChannelOf) (ps : List ChannelOf) (mask : ℕ) (b : Bool) → (c == number) ≡ b → 1 ≤ number → number ≤ 64
    → p.finishes ≡ true → ((d : ℕ) → mask_has mask d ≡ finishes_from (number + 1) ps d)
    → mask_has (mask_with mask number) c ≡ cond b p.finishes (finishes_from (number + 1) ps c)
here_or_behind number c p ps mask true e low high finishes behind =
    let same : number ≡ c = sym (eqb-true c number e) in
    mask_has-with mask number c
    ∙ or_right (mask_has mask c) _ (and_from _ _ (ap is_channel (sym same) ∙ is_number number low high) (eq-eqb number c same))
    ∙ sym finishes
here_or_behind number c p ps mask false e low high finishes behind =
    mask_has-with mask number c
    ∙ or_none (mask_has mask c) _ (and_none (is_channel c) _ (ne_eqb number c (λ same. true≢false (sym (eq-eqb c number (sym same)) ∙ e))))
    ∙ behind c

-- the first channel's owner finishes
pub finishing_with : (number : ℕ) (p : ChannelOf) (ps : List ChannelOf) (mask : ℕ) → 1 ≤ number → number ≤ 64
    → p.finishes ≡ true → ((d : ℕ) → mask_has mask d ≡ finishes_from (number + 1) ps d)
    → (c : ℕ) → mask_has (mask_with mask number) c ≡ finishes_from number (p ∷ ps) c
finishing_with number p ps mask low high finishes behind c = here_or_behind number c p ps mask (c == number) refl low high finishes behind

only_behind : (number c : ℕ) (p : ChannelOf) (ps : List ChannelOf) (mask : ℕ) (b : Bool) → (c == number) ≡ b → p.finishes ≡ false
    → ((d : ℕ) → mask_has mask d ≡ finishes_from (number + 1) ps d) → mask_has mask c ≡ cond b p.finishes (finishes_from (number + 1) ps c)
only_behind number c p ps mask true e never behind =
    behind c ∙ below c (number + 1) ps (omega (arith, eqb-true c number e)) ∙ sym never
only_behind number c p ps mask false e never behind = behind c

-- it does not
pub finishing_without : (number : ℕ) (p : ChannelOf) (ps : List ChannelOf) (mask : ℕ) → p.finishes ≡ false
    → ((d : ℕ) → mask_has mask d ≡ finishes_from (number + 1) ps d) → (c : ℕ) → mask_has mask c ≡ finishes_from number (p ∷ ps) c
finishing_without number p ps mask never behind c = only_behind number c p ps mask (c == number) refl never behind

-- there is no channel
pub finishing_none : {A : Type 0} (number : ℕ) (view : A → ChannelOf) (xs : List A) → length xs ≡ 0
    → (c : ℕ) → mask_has 0 c ≡ finishes_from number (map view xs) c
finishing_none number view [] e c = mask_has-zero c
finishing_none number view (x ∷ xs) e c = absurd (omega (arith, e))

whole : {A : Type 0} (n : ℕ) (xs : List A) → length xs ≤ n → take n xs ≡ xs
whole zero [] h = refl
whole (suc n) [] h = refl
whole zero (x ∷ xs) h = absurd (omega (arith, h))
whole (suc n) (x ∷ xs) h = ap (λ ys. x ∷ ys) (whole n xs (omega (arith, h)))

-- a list with a first element, and everything after it
pub first_and_rest : {A : Type 0} (xs : List A) (x : A) → 1 ≤ length xs → x ≡ slice_index_or xs 0 x → xs ≡ x ∷ take (length xs - 1) (drop 1 xs)
first_and_rest [] x h e = absurd (omega (arith, h))
first_and_rest (y ∷ ys) x h e = ap (λ zs. y ∷ zs) (sym (whole (length (y ∷ ys) - 1) ys (omega arith))) ∙ ap (λ z. z ∷ take (length (y ∷ ys) - 1) ys) (sym e)
