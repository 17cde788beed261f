-- The first channel that is due at the least moment.
use Rattle.std.specs.Prelude.{◌≡◌, ◌≢◌, ◌⊎◌, ℕ, ◌-◌, ◌≤◌, Bool, true, false, not, ◌&&◌, ◌==◌, nat_eq, List, length, Option, Some, None}
use Rattle.std.proofs.Common.{refl, sym, ◌∙◌, ap, arith, inl, inr, set}
use Rattle.std.proofs.lemmas.List.{length-set}
use Rattle.std.proofs.lemmas.Bool.{cases_eq, eqb-true, false≢true, eq-eqb, both_ways}
use Rattle.std.proofs.lemmas.Bool.Decides.{nat_tests}
use Rattle.window_snapshot.specs.Mask.{mask_has, mask_with}
use Rattle.window_snapshot.proofs.Masks.{mask_has-zero}
use Rattle.dispatcher.specs.AnrTracker.Due.{due_of, IsFirst, IsTable, NoneBelow, is_at, is_before, least_with}
use Rattle.dispatcher.proofs.AnrTracker.Firsts.{due-set_same, due-set_other, kept, none_over, none_left}

-- the moment is not above that at which one more is due
least_low : (pending least m : ℕ) → least_with pending least m ≤ m
least_low pending least m = grind (arith, nat_tests)

-- nor above the moment before, where some channel was due
least_less : (pending least m : ℕ) → pending ≢ 0 → least_with pending least m ≤ least
least_less pending least m some = of (nat_eq pending 0) refl
  where
    of : (b : Bool) → nat_eq pending 0 ≡ b → least_with pending least m ≤ least
    of true e = absurd (some (eqb-true pending 0 e))
    of false e = rw e grind (arith, nat_tests)

-- no channel is due below it, once one more is due
below_with : (dues : List (Option ℕ)) (least pending m c : ℕ) → IsTable dues least pending → 1 ≤ c → c ≤ 64
    → NoneBelow (due_of (set dues (c - 1) (Some m))) (least_with pending least m)
below_with dues least pending m c h low high k at is = elim (cases_eq k c) [
  | inl same ↦
      own at (sym (due-set_same dues c (Some m) low (omega (arith, high, h.whole)))
      ∙ ap (due_of (set dues (c - 1) (Some m))) (sym same) ∙ is)
  | inr other ↦ others (sym (due-set_other dues c (Some m) low k other) ∙ is) (cases_eq pending 0)
]
  where
    own : (n : ℕ) → Some m ≡ Some n → least_with pending least m ≤ n
    own n e = let one : m ≡ n = cc in let le : least_with pending least m ≤ m = least_low pending least m in omega (arith, le, one)

    others : due_of dues k ≡ Some at → (pending ≡ 0) ⊎ (pending ≢ 0) → least_with pending least m ≤ at
    others there (inl none) =
        let gone : due_of dues k ≡ None = h.none_out k (ap (λ p. mask_has p k) none ∙ mask_has-zero k) in cc
    others there (inr some) =
        let le : least_with pending least m ≤ least = least_less pending least m some in
        let below : least ≤ at = h.none_below k at there in omega (arith, le, below)

-- nor once one is not due
below_without : (dues : List (Option ℕ)) (least c : ℕ) → length dues ≡ 64 → NoneBelow (due_of dues) least → 1 ≤ c → c ≤ 64
    → NoneBelow (due_of (set dues (c - 1) None)) least
below_without dues least c whole below low high k at is = elim (cases_eq k c) [
  | inl same ↦
      (let gone : due_of (set dues (c - 1) None) k ≡ None =
      ap (due_of (set dues (c - 1) None)) same ∙ due-set_same dues c None low (omega (arith, high, whole)) in cc)
  | inr other ↦ below k at (sym (due-set_other dues c None low k other) ∙ is)
]

-- the table once one more is due
pub table_with : (dues : List (Option ℕ)) (least pending m c : ℕ) → IsTable dues least pending → 1 ≤ c → c ≤ 64
    → IsTable (set dues (c - 1) (Some m)) (least_with pending least m) (mask_with pending c)
table_with dues least pending m c h low high = record {
  whole = length-set dues (c - 1) (Some m) ∙ h.whole;
  none_below = below_with dues least pending m c h low high;
  none_out = none_over dues (Some m) c pending low high h.none_out;
}

-- and once one is not due
pub table_without : (dues : List (Option ℕ)) (least pending rest c : ℕ) → IsTable dues least pending → 1 ≤ c → c ≤ 64
    → ((k : ℕ) → mask_has rest k ≡ (not (k == c) && mask_has pending k)) → IsTable (set dues (c - 1) None) least rest
table_without dues least pending rest c h low high without = record {
  whole = length-set dues (c - 1) None ∙ h.whole;
  none_below = below_without dues least c h.whole h.none_below low high;
  none_out = none_left dues c pending rest low (omega (arith, high, h.whole)) h.none_out without;
}

-- no examined channel is due at the moment
abbrev pub NoneAt : (due : ℕ → Option ℕ) (rest moment : ℕ) → Type 0
NoneAt due rest moment = (c : ℕ) → mask_has rest c ≡ false → is_at (due c) moment ≡ false

-- none has been examined
pub none_at : (due : ℕ → Option ℕ) (pending moment : ℕ) → ((c : ℕ) → mask_has pending c ≡ false → due c ≡ None) → NoneAt due pending moment
none_at due pending moment none c out = ap (λ d. is_at d moment) (none c out)

-- one more has been examined
pub none_more : (due : ℕ → Option ℕ) (rest later c moment : ℕ) → ((k : ℕ) → mask_has later k ≡ (not (k == c) && mask_has rest k))
    → is_at (due c) moment ≡ false → NoneAt due rest moment → NoneAt due later moment
none_more due rest later c moment without away none k out = elim (cases_eq k c) [
  | inl same ↦ ap (λ i. is_at (due i) moment) same ∙ away
  | inr other ↦ none k (sym (kept c rest later without k other) ∙ out)
]

-- the first channel that is due at the least moment comes first
pub first_at : (due : ℕ → Option ℕ) (rest c moment : ℕ) → NoneBelow due moment → NoneAt due rest moment
    → ((k : ℕ) → mask_has rest k ≡ true → c ≤ k) → is_at (due c) moment ≡ true → IsFirst due (Some (moment, c))
first_at due rest c moment below none first here = (there (due c) here, λ q at. last q.0 q.1 (below q.1 q.0 at) (after q.0 q.1 at))
  where
    there : (d : Option ℕ) → is_at d moment ≡ true → d ≡ Some moment
    there None e = absurd (false≢true e)
    there (Some n) e = ap (λ m. Some m) (eqb-true n moment e)

    after : (n k : ℕ) → due k ≡ Some n → n ≡ moment → c ≤ k
    after n k at same = within (mask_has rest k) refl
      where
        within : (b : Bool) → mask_has rest k ≡ b → c ≤ k
        within true has = first k has
        within false out =
            absurd (both_ways _ (none k out) (ap (λ d. is_at d moment) at ∙ eq-eqb n moment same))

    last : (n k : ℕ) → moment ≤ n → (n ≡ moment → c ≤ k) → is_before (n, k) (moment, c) ≡ false
    last n k le h = elim (cases_eq n moment) [
      | inl same ↦ (let lek : c ≤ k = h same in grind (arith, nat_tests))
      | inr other ↦ grind (arith, nat_tests)
    ]
