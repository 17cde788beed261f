-- The files of a run under their names.
use Rattle.std.specs.Prelude.{codes, cond}
use Rattle.std.proofs.Common.{◌≡◌, ◌∙◌, ℕ, ◌≤◌, nat_le, List, [], ◌∷◌, take, Some, None, true, sym, ap, arith}
use Rattle.std.proofs.lemmas.Bool.Decides.{nat_tests}
use Rattle.plain_run.specs.Running.{files_from}

few : (n : ℕ) → n ≤ 3 → nat_le n 3 ≡ true
few n h = grind (arith, nat_tests)

-- the first so many of three files whose names are these
pub under_names : (count : ℕ) (a b c x y z : List ℕ) → count ≤ 3 → x ≡ codes "1" → y ≡ codes "2" → z ≡ codes "3"
    → files_from count a b c ≡ Some (take count ((x, a) ∷ (y, b) ∷ (z, c) ∷ []))
under_names count a b c x y z h p q r =
    ap (λ t. cond t (Some (take count ((codes "1", a) ∷ (codes "2", b) ∷ (codes "3", c) ∷ []))) None) (few count h)
    ∙ ap (λ n. Some (take count ((n, a) ∷ (codes "2", b) ∷ (codes "3", c) ∷ []))) (sym p)
    ∙ ap (λ n. Some (take count ((x, a) ∷ (n, b) ∷ (codes "3", c) ∷ []))) (sym q)
    ∙ ap (λ n. Some (take count ((x, a) ∷ (y, b) ∷ (n, c) ∷ []))) (sym r)
