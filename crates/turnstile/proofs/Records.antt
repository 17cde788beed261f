-- Records of a history, and which numbers they bear.
use Rattle.std.proofs.Common.{◌≡◌, ◌≢◌, ℕ, ◌<◌, ◌≤◌, true, false, List, [], ◌∷◌, ◌++◌, sym, refl, ap, subst, ◌∙◌, arith, eq-eqb, ne_eqb, leb, leb-false, leb-true}
use mathlib.Core.Logic.{dite}
use native.Mathlib.Decide.{ℕ_discrete}
use Rattle.turnstile.specs.History.{Entry, calls_by, of_zero}
use Rattle.turnstile.specs.Rule.{total, once_to, bears, Fits, EachFits}
use Rattle.turnstile.specs.Told.{Owns, EachOwns}
use Rattle.turnstile.specs.Answers.{has, made_by_zero}
use Rattle.turnstile.specs.declared.view.Record.{Record}
use Rattle.turnstile.proofs.Lists.{calls_other, only_zero}

module _ {C R : Type 0} where
  pub bears_own : (k : ℕ) (r : Record C R) → r.number ≡ k → bears k r ≡ 1
  bears_own k r is = rw (eq-eqb r.number k is) refl

  pub bears_not : (k : ℕ) (r : Record C R) → bears k r ≡ 0 → r.number ≢ k
  bears_not k r none is = let one = bears_own k r is in omega arith

  -- an entry of another number leaves a record as it was
  pub fits_other : (h : List (Entry C R)) (e : Entry C R) (made : ℕ) (r : Record C R) → r.number ≢ e.0 → Fits h made r → Fits (e ∷ h) made r
  fits_other h e made r ne f = record {
    own = f.own ∙ sym (calls_other r.number e h (λ s. ne (sym s)));
    zero_made = f.zero_made;
    others_made = f.others_made;
  }

  pub each_other : (h : List (Entry C R)) (e : Entry C R) (made : ℕ) (rs : List (Record C R)) → total (bears e.0) rs ≡ 0 → EachFits h made rs → EachFits (e ∷ h) made rs
  each_other h e made [] none f = tt
  each_other h e made (r ∷ rs) none f =
      (fits_other h e made r (bears_not e.0 r (omega arith)) f.0, each_other h e made rs (omega arith) f.1)

  -- number 0 has handed out another number: records of other numbers stay as they were
  pub fits_made : (h : List (Entry C R)) (made now : ℕ) (r : Record C R) → r.number ≢ 0 → Fits h made r → Fits h now r
  fits_made h made now r ne f = record { own = f.own; zero_made = λ z. absurd (ne z); others_made = f.others_made }

  pub each_made : (h : List (Entry C R)) (made now : ℕ) (rs : List (Record C R)) → total (bears 0) rs ≡ 0 → EachFits h made rs → EachFits h now rs
  each_made h made now [] none f = tt
  each_made h made now (r ∷ rs) none f =
      (fits_made h made now r (bears_not 0 r (omega arith)) f.0, each_made h made now rs (omega arith) f.1)

  pub each_append : (h : List (Entry C R)) (made : ℕ) (rs qs : List (Record C R)) → EachFits h made rs → EachFits h made qs → EachFits h made (rs ++ qs)
  each_append h made [] qs f g = g
  each_append h made (r ∷ rs) qs f g = (f.0, each_append h made rs qs f.1 g)

  -- what the rule says about a record is what its seat learns
  pub owns : (h : List (Entry C R)) (made : ℕ) → ((k : ℕ) → made < k → calls_by k h ≡ []) → (r : Record C R) → Fits h made r → Owns h r
  owns h made none_above r f = record { own = f.own; above = λ z k a. none_above k (subst (λ m. m < k) (f.zero_made z) a) }

  pub each_owns : (h : List (Entry C R)) (made : ℕ) → ((k : ℕ) → made < k → calls_by k h ≡ []) → (rs : List (Record C R)) → EachFits h made rs → EachOwns h rs
  each_owns h made none_above [] f = tt
  each_owns h made none_above (r ∷ rs) f = (owns h made none_above r f.0, each_owns h made none_above rs f.1)

  -- where the records are those of all numbers, no other number has entries
  pub none_above : (h : List (Entry C R)) (rs : List (Record C R)) → EachOwns h rs → has 0 rs ≡ true → (k : ℕ) → made_by_zero rs < k → calls_by k h ≡ []
  none_above h [] o there k a = absurd (cc)
  none_above h (r ∷ rs) o there k a =
      dite (ℕ_discrete r.number 0)
      (λ z. o.0.above z k (subst (λ m. m < k) (rw (eq-eqb r.number 0 z) refl) a))
      (λ nz. let e = ne_eqb r.number 0 nz in none_above h rs o.1 (rw e at there) k (rw e at a))

  pub whole : (h : List (Entry C R)) (rs : List (Record C R)) → EachOwns h rs → has 0 rs ≡ true → ((k : ℕ) → k ≤ made_by_zero rs → has k rs ≡ true) → (k : ℕ) → has k rs ≡ false → calls_by k h ≡ []
  whole h rs o there all k not_there =
      none_above h rs o there k (elim (leb k (made_by_zero rs)) as (λ b. leb k (made_by_zero rs) ≡ b → made_by_zero rs < k) [ true ↦ λ t. absurd (let a = all k (omega (arith, leb-true)) in cc) | false ↦ λ f. leb-false k (made_by_zero rs) f ] refl)

  -- a seat of number 0 that has made no other number has made all calls itself
  pub alone : (h : List (Entry C R)) (r : Record C R) → Owns h r → r.number ≡ 0 → r.made ≡ 0 → h ≡ of_zero r.own
  alone h r o z none_made =
      let own : r.own ≡ calls_by 0 h = o.own ∙ ap (λ k. calls_by k h) z in
      sym (ap of_zero own ∙ only_zero h (λ k a. o.above z k (subst (λ m. m < k) (sym none_made) a)))

-- a number that is borne is at most the top
pub borne_top : (top k n : ℕ) → n ≡ once_to top k → 0 < n → k ≤ top
borne_top top k n is some = elim (leb k top) as (λ b. leb k top ≡ b → k ≤ top) [ true ↦ λ t. leb-true k top t | false ↦ λ f. absurd (let e : once_to top k ≡ 0 = rw f refl in omega arith) ] refl

pub once_most : (top k n : ℕ) → n ≡ once_to top k → n ≤ 1
once_most top k n is = elim (leb k top) as (λ b. leb k top ≡ b → n ≤ 1) [ true ↦ λ t. (let e : once_to top k ≡ 1 = rw t refl in omega arith) | false ↦ λ f. (let e : once_to top k ≡ 0 = rw f refl in omega arith) ] refl
