-- Channels of which at most one passes a test.
use Rattle.std.proofs.Common.{◌≡◌, ◌≤◌, ◌<◌, ◌⊎◌, ℕ, zero, suc, Bool, true, false, cond, ◌==◌, nat_lt, nat_le, [], ◌∷◌, ◌++◌, filter, Some, None, refl, ap, ap₂, ◌∙◌, inl, inr, append-nil, arith}
use Rattle.std.proofs.lemmas.Bool.{and_parts, leb-true, ltb-true, ne_eqb, cases_lt}
use Rattle.std.proofs.lemmas.List.Elements.{filter-append}
use Rattle.window_snapshot.specs.Mask.{is_channel}
use Rattle.dispatch_history.specs.Effects.{channels}
use Rattle.why_text.specs.Words.{channels_that}
use Rattle.why_text.specs.Lines.{first_of}

-- no other channel passes
abbrev pub Only : (ℕ → Bool) → ℕ → Type 0
Only test t = (w : ℕ) → (w == t) ≡ false → test w ≡ false

below_it : (test : ℕ → Bool) (t n : ℕ) → Only test t → n < t → filter test (channels n) ≡ []
below_it test t zero only low = refl
below_it test t (suc n) only low =
    filter-append test (channels n) (suc n ∷ [])
    ∙ ap₂ (λ xs b. xs ++ cond b (suc n ∷ []) []) (below_it test t n only (omega (arith, low))) (only (suc n) (ne_eqb (suc n) t (λ e. omega (arith, low, e))))

up_to : (test : ℕ → Bool) (t n : ℕ) → Only test t → 1 ≤ t → t ≤ n → filter test (channels n) ≡ cond (test t) (t ∷ []) []
up_to test t zero only low high = absurd (omega (arith, low, high))
up_to test t (suc n) only low high =
    filter-append test (channels n) (suc n ∷ []) ∙ by_order (cases_lt n t) (up_to test t n only low)
  where
    by_order : (n < t) ⊎ (t ≤ n) → (t ≤ n → filter test (channels n) ≡ cond (test t) (t ∷ []) [])
        → filter test (channels n) ++ cond (test (suc n)) (suc n ∷ []) [] ≡ cond (test t) (t ∷ []) []
    by_order (inl less) more =
        let same : suc n ≡ t = omega (arith, high, less) in
        ap (λ xs. xs ++ cond (test (suc n)) (suc n ∷ []) []) (below_it test t n only less) ∙ ap (λ w. cond (test w) (w ∷ []) []) same
    by_order (inr le) more =
        ap₂ (λ xs b. xs ++ cond b (suc n ∷ []) []) (more le) (only (suc n) (ne_eqb (suc n) t (λ e. omega (arith, le, e))))
        ∙ append-nil (cond (test t) (t ∷ []) [])

-- the channels that pass are that one, where it does
pub that_is : (test : ℕ → Bool) (t : ℕ) → is_channel t ≡ true → Only test t → channels_that test ≡ cond (test t) (t ∷ []) []
unfolding channels_that
that_is test t number only =
    let x = and_parts (nat_lt 0 t) (nat_le t 64) number in
    let low : 0 < t = ltb-true 0 t x.0 in
    up_to test t 64 only (omega (arith, low)) (leb-true t 64 x.1)

-- the first channel that passes is that one, where it does
pub first_is : (test : ℕ → Bool) (t : ℕ) → is_channel t ≡ true → Only test t → first_of (channels_that test) ≡ cond (test t) (Some t) None
first_is test t number only = ap first_of (that_is test t number only) ∙ by_test (test t)
  where
    by_test : (b : Bool) → first_of (cond b (t ∷ []) []) ≡ cond b (Some t) None
    by_test true = refl
    by_test false = refl

-- where no channel passes there is none
none_of : (test : ℕ → Bool) (n : ℕ) → ((w : ℕ) → test w ≡ false) → filter test (channels n) ≡ []
none_of test zero none = refl
none_of test (suc n) none =
    filter-append test (channels n) (suc n ∷ []) ∙ ap₂ (λ xs b. xs ++ cond b (suc n ∷ []) []) (none_of test n none) (none (suc n))

pub first_none : (test : ℕ → Bool) → ((w : ℕ) → test w ≡ false) → first_of (channels_that test) ≡ None
unfolding channels_that
first_none test none = ap first_of (none_of test 64 none)
