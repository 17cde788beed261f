-- Rows of sets of ids.
use Rattle.std.proofs.Common.{◌≡◌, ◌<◌, ◌+◌, ℕ, zero, suc, Bool, List, [], ◌∷◌, length, set, slice_index_or, sym, subst, inl, inr, arith}
use Rattle.std.proofs.lemmas.Bool.{cases_eq}
use Rattle.std.proofs.lemmas.List.{get_or-set_other}
use Rattle.std.proofs.lemmas.Grind.{get_or-set_at}
use Rattle.bits32.specs.Set.{is_in}
use Rattle.why_lines.specs.Rows.{RowIs}

-- a set has what passes a test
abbrev pub Has : (ℕ → Bool) → ℕ → Type 0
Has test set = (i : ℕ) → is_in i set ≡ test i

-- the sets of eight devices
pub eight_sets : (test : ℕ → ℕ → Bool) (a b c d e f g h : ℕ) → Has (test 1) a → Has (test 2) b → Has (test 3) c → Has (test 4) d → Has (test 5) e → Has (test 6) f
    → Has (test 7) g → Has (test 8) h → RowIs test (a ∷ b ∷ c ∷ d ∷ e ∷ f ∷ g ∷ h ∷ [])
eight_sets test a b c d e f g h one two three four five six seven eight = at
  where
    at : (k i : ℕ) → k < 8 → is_in i (slice_index_or (a ∷ b ∷ c ∷ d ∷ e ∷ f ∷ g ∷ h ∷ []) k 0) ≡ test (k + 1) i
    at zero i low = one i
    at (suc zero) i low = two i
    at (suc (suc zero)) i low = three i
    at (suc (suc (suc zero))) i low = four i
    at (suc (suc (suc (suc zero)))) i low = five i
    at (suc (suc (suc (suc (suc zero))))) i low = six i
    at (suc (suc (suc (suc (suc (suc zero)))))) i low = seven i
    at (suc (suc (suc (suc (suc (suc (suc zero))))))) i low = eight i
    at (suc (suc (suc (suc (suc (suc (suc (suc k)))))))) i low = absurd (omega (arith, low))

-- the rows of the first n windows
abbrev pub RowsAre : (ℕ → ℕ → ℕ → Bool) → List (List ℕ) → ℕ → Type 0
RowsAre test rows n = (k : ℕ) → k < n → RowIs (test (k + 1)) (slice_index_or rows k [])

-- one row more
pub rows_more : (test : ℕ → ℕ → ℕ → Bool) (rows : List (List ℕ)) (n : ℕ) (row : List ℕ) → n < length rows → RowsAre test rows n → RowIs (test (n + 1)) row
    → RowsAre test (set rows n row) (n + 1)
rows_more test rows n row low before here k less =
    elim (cases_eq k n) [
      | inl same ↦ subst (RowIs (test (k + 1))) (sym (get_or-set_at rows n k row [] same low)) (subst (λ m. RowIs (test (m + 1)) row) (sym same) here)
      | inr other ↦ subst (RowIs (test (k + 1))) (sym (get_or-set_other rows n k row [] other)) (before k (omega (arith, less, other)))
    ]
