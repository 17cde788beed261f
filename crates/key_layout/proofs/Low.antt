-- The table of low scan codes, one place more.
use Rattle.std.specs.Prelude.{◌≡◌, ◌≢◌, ℕ, ◌+◌, ◌<◌, List, length, set, get_or, ◌⊎◌}
use Rattle.std.proofs.Common.{sym, ◌∙◌, ap, arith, inl, inr, get_or-set_same, get_or-set_other}
use Rattle.key_layout.specs.Layout.{Codes, code_at}

pub one_more : (codes : Codes) (low : List ℕ) (i j c : ℕ) → i < length low → c ≡ code_at codes i → (j < i → get_or low j 0 ≡ code_at codes j) → j < i + 1
    → (j ≡ i) ⊎ (j ≢ i) → get_or (set low i c) j 0 ≡ code_at codes j
one_more codes low i j c within is before lt (inl same) =
    ap (λ k. get_or (set low i c) k 0) same ∙ get_or-set_same low i c 0 within ∙ is ∙ ap (λ k. code_at codes k) (sym same)
one_more codes low i j c within is before lt (inr other) = get_or-set_other low i j c 0 other ∙ before (omega (arith, lt, other))
