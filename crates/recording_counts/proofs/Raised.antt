-- The numbers of some paths, one place further.
use Rattle.std.specs.Prelude.{◌≡◌, ◌≢◌, ℕ, ◌+◌, ◌<◌, ◌≤◌, ◌||◌, ◌&&◌, ◌⊎◌, nat_eq, List, [], length, take, get_or, if◌then◌else◌}
use Rattle.std.specs.Str.{bytes_eq}
use Rattle.std.proofs.Common.{refl, ap, sym, ◌∙◌, arith, inl, inr, eq-eqb, ne_eqb}
use Rattle.std.proofs.lemmas.Bool.{cases_eq}
use Rattle.std.proofs.lemmas.List.Folds.{list_any_more}
use Rattle.recording_counts.specs.Counted.{risen}
use Rattle.recording_counts.specs.Paths.{is_among}

-- whether a path is among those so far
pub found_more : (paths : List (List ℕ)) (path : List ℕ) (i : ℕ) → i < length paths → (is_among path (take i paths) || bytes_eq path (get_or paths i [])) ≡ is_among path (take (i + 1) paths)
found_more paths path i lt = sym (list_any_more (λ p. bytes_eq path p) paths i [] lt)

module _ (paths : List (List ℕ)) (path : List ℕ) (first before after : List ℕ) (i : ℕ)
    (raised : (j : ℕ) → get_or after j 0 ≡ (if nat_eq j i && bytes_eq path (get_or paths i []) then risen (get_or before j 0) else get_or before j 0))
    (done : (j : ℕ) → j < i → get_or before j 0 ≡ (if bytes_eq path (get_or paths j []) then risen (get_or first j 0) else get_or first j 0))
    (left : (j : ℕ) → i ≤ j → get_or before j 0 ≡ get_or first j 0) where
  others : (j : ℕ) → j ≢ i → get_or after j 0 ≡ get_or before j 0
  others j ne = raised j ∙ (rw (ne_eqb j i ne) refl)

  at : (j : ℕ) → j < i + 1 → (j ≡ i) ⊎ (j ≢ i) → get_or after j 0 ≡ (if bytes_eq path (get_or paths j []) then risen (get_or first j 0) else get_or first j 0)
  at j lt (inl e) =
      raised j
      ∙ ap (λ t. if t && bytes_eq path (get_or paths i []) then risen (get_or before j 0) else get_or before j 0) (eq-eqb j i e)
      ∙ ap (λ n. if bytes_eq path (get_or paths i []) then risen n else n) (left j (omega (arith, e)))
      ∙ ap (λ k. if bytes_eq path (get_or paths k []) then risen (get_or first j 0) else get_or first j 0) (sym e)
  at j lt (inr ne) = others j ne ∙ done j (omega (arith, lt, ne))

  pub done_more : (j : ℕ) → j < i + 1 → get_or after j 0 ≡ (if bytes_eq path (get_or paths j []) then risen (get_or first j 0) else get_or first j 0)
  done_more j lt = at j lt (cases_eq j i)

  pub left_more : (j : ℕ) → i + 1 ≤ j → get_or after j 0 ≡ get_or first j 0
  left_more j le = others j (omega (arith, le)) ∙ left j (omega (arith, le))
