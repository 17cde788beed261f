-- A stable sort by moments gives the steps in order, and nothing else does.
use Rattle.std.proofs.Common.{◌≡◌, ℕ, suc, ◌<◌, ◌≤◌, ◌==◌, nat_lt, not, ◌&&◌, Bool, true, false, cond, List, [], ◌∷◌, length, get_or, arith, refl, sym, ◌∙◌, ap, nat_cmp}
use Rattle.std.specs.List.{filter}
use Rattle.std.specs.List.Sorted.{IsNonDecreasingBy, ties}
use Rattle.std.specs.Ordering.{is_lt}
use Rattle.std.proofs.lemmas.Bool.Decides.{nat_tests}
use Rattle.session_plan.specs.declared.plan.Act.TheVariants.{Remove}
use Rattle.session_plan.specs.declared.plan.Step.{Step}
use Rattle.session_plan.specs.Order.{in_order, placed}

-- no step of the list is earlier than n
Above : ℕ → List Step → Type 0
Above n [] = Unit {0}
Above n (s ∷ ss) = (n ≤ s.at) × Above n ss

Rising : List Step → Type 0
Rising [] = Unit {0}
Rising (s ∷ ss) = Above s.at ss × Rising ss

-- the steps at one moment
abbrev at_moment : ℕ → List Step → List Step
at_moment n ss = filter (λ s. n == s.at) ss

above_of : (n : ℕ) (ss : List Step) → ((j : ℕ) (d : Step) → j < length ss → n ≤ (get_or ss j d).at) → Above n ss
unfolding Above
above_of n [] h = tt
above_of n (s ∷ ss) h = (h 0 s (omega arith), above_of n ss (λ j d l. h (suc j) d (omega arith)))

rising_of : (ss : List Step) → IsNonDecreasingBy (λ s. s.at) ss → Rising ss
unfolding Rising
rising_of [] h = tt
rising_of (s ∷ ss) h = (above_of s.at ss (λ j d l. h 0 (suc j) d (omega arith) (omega arith)), rising_of ss (λ i j d k l. h (suc i) (suc j) d (omega arith) (omega arith)))

above_placed : (n : ℕ) (s : Step) (ts : List Step) → n ≤ s.at → Above n ts → Above n (placed s ts)
unfolding Above
above_placed n s [] h a = (h, tt)
above_placed n s (t ∷ ts) h a =
    elim (nat_lt t.at s.at) as (λ b. Above n (cond b (t ∷ placed s ts) (s ∷ t ∷ ts))) [ true ↦ (a.0, above_placed n s ts h a.1) | false ↦ (h, a) ]

above_less : (m n : ℕ) (ts : List Step) → m ≤ n → Above n ts → Above m ts
unfolding Above
above_less m n [] h a = tt
above_less m n (t ∷ ts) h a = (let k : n ≤ t.at = a.0 in omega arith, above_less m n ts h a.1)

rising_placed : (s : Step) (ts : List Step) → Rising ts → Rising (placed s ts)
unfolding Above Rising
rising_placed s [] r = (tt, tt)
rising_placed s (t ∷ ts) r =
    elim (nat_lt t.at s.at) as (λ b. nat_lt t.at s.at ≡ b → Rising (cond b (t ∷ placed s ts) (s ∷ t ∷ ts))) [
      | true ↦ λ e. (above_placed t.at s ts (grind (arith, nat_tests)) r.0, rising_placed s ts r.1)
      | false ↦ λ e. let le : s.at ≤ t.at = grind (arith, nat_tests) in ((le, above_less s.at t.at ts le r.0), r)
    ] refl

rising_in_order : (ss : List Step) → Rising (in_order ss)
unfolding Rising
rising_in_order [] = tt
rising_in_order (s ∷ ss) = rising_placed s (in_order ss) (rising_in_order ss)

exchanged : (a b : Bool) (s t : Step) (f : List Step) → (a ≡ true → b ≡ true → ⊥)
    → cond a (t ∷ cond b (s ∷ f) f) (cond b (s ∷ f) f) ≡ cond b (s ∷ cond a (t ∷ f) f) (cond a (t ∷ f) f)
exchanged true true s t f h = absurd (h refl refl)
exchanged true false s t f h = refl
exchanged false b s t f h = refl

moments_placed : (n : ℕ) (s : Step) (ts : List Step) → at_moment n (placed s ts) ≡ at_moment n (s ∷ ts)
moments_placed n s [] = refl
moments_placed n s (t ∷ ts) =
    elim (nat_lt t.at s.at) as (λ b. nat_lt t.at s.at ≡ b → at_moment n (cond b (t ∷ placed s ts) (s ∷ t ∷ ts)) ≡ at_moment n (s ∷ t ∷ ts)) [
      | true ↦ λ e.
          rw (moments_placed n s ts) (exchanged (n == t.at) (n == s.at) s t (at_moment n ts) (λ p q. absurd (grind (arith, nat_tests))))
      | false ↦ λ e. refl
    ] refl

moments_in_order : (n : ℕ) (ss : List Step) → at_moment n (in_order ss) ≡ at_moment n ss
moments_in_order n [] = refl
moments_in_order n (s ∷ ss) = moments_placed n s (in_order ss) ∙ ap (λ f. cond (n == s.at) (s ∷ f) f) (moments_in_order n ss)

none_below : (m n : ℕ) (ss : List Step) → m < n → Above n ss → at_moment m ss ≡ []
unfolding Above
none_below m n [] h a = refl
none_below m n (s ∷ ss) h a =
    let k : n ≤ s.at = a.0 in
    let e : (m == s.at) ≡ false = grind (arith, nat_tests) in
    rw (e, none_below m n ss h a.1) refl

first_at : (s : Step) (ss : List Step) → at_moment s.at (s ∷ ss) ≡ s ∷ at_moment s.at ss
first_at s ss = let e : (s.at == s.at) ≡ true = grind (arith, nat_tests) in rw e refl

rest_at : (a : Bool) (s : Step) (f g : List Step) → cond a (s ∷ f) f ≡ cond a (s ∷ g) g → f ≡ g
rest_at true s f g e = cc
rest_at false s f g e = e

-- the first steps of two lists with the same steps at each moment: neither is later
not_earlier : (s t : Step) (ss ts : List Step) → Above t.at ts → ((n : ℕ) → at_moment n (s ∷ ss) ≡ at_moment n (t ∷ ts)) → s.at < t.at → ⊥
unfolding Above
not_earlier s t ss ts a h l =
    let none : at_moment s.at (t ∷ ts) ≡ [] = none_below s.at t.at (t ∷ ts) l (omega arith, a) in
    let e : s ∷ at_moment s.at ss ≡ [] = sym (first_at s ss) ∙ h s.at ∙ none in
    cc

same_first : (s t : Step) (ss ts : List Step) → Above s.at ss → Above t.at ts → ((n : ℕ) → at_moment n (s ∷ ss) ≡ at_moment n (t ∷ ts)) → s ≡ t
same_first s t ss ts a b h =
    let p : s.at < t.at → ⊥ = not_earlier s t ss ts b h in
    let q : t.at < s.at → ⊥ = not_earlier t s ts ss a (λ n. sym (h n)) in
    let same : s.at ≡ t.at = grind arith in
    let e : s ∷ at_moment s.at ss ≡ t ∷ at_moment t.at ts = sym (first_at s ss) ∙ h s.at ∙ ap (λ n. at_moment n (t ∷ ts)) same ∙ first_at t ts in
    cc

-- a list that rises is determined by its steps at each moment
unique : (ss ts : List Step) → Rising ss → Rising ts → ((n : ℕ) → at_moment n ss ≡ at_moment n ts) → ss ≡ ts
unfolding Rising
unique [] [] r q h = refl
unique [] (t ∷ ts) r q h = let e : [] ≡ t ∷ at_moment t.at ts = h t.at ∙ first_at t ts in cc
unique (s ∷ ss) [] r q h = let e : s ∷ at_moment s.at ss ≡ [] = sym (first_at s ss) ∙ h s.at in cc
unique (s ∷ ss) (t ∷ ts) r q h =
    let same : s ≡ t = same_first s t ss ts r.0 q.0 h in
    ap (λ x. x ∷ ss) same
    ∙ ap (λ xs. t ∷ xs) (unique ss ts r.1 q.1 (λ n. rest_at (n == s.at) s (at_moment n ss) (at_moment n ts) (h n ∙ ap (λ x. at_moment n (x ∷ ts)) (sym same))))

abbrev pub earlier : Step → Step → Bool
earlier s t = is_lt (nat_cmp s.at t.at)

ties_moment : (m n : ℕ) → (m == n) ≡ (not (is_lt (nat_cmp m n)) && not (is_lt (nat_cmp n m)))
ties_moment m n = grind (arith, nat_tests)

-- some step at a moment
abbrev pub some_at : ℕ → Step
some_at n = record { at = n; lane = 0; act = Remove 0 }

tied : (n : ℕ) (ss : List Step) → at_moment n ss ≡ filter (ties earlier (some_at n)) ss
tied n [] = refl
tied n (s ∷ ss) =
    let rest : List Step = filter (ties earlier (some_at n)) ss in
    ap (λ f. cond (n == s.at) (s ∷ f) f) (tied n ss) ∙ ap (λ b. cond b (s ∷ rest) rest) (ties_moment n s.at)

-- a list that rises and has the steps of another at each moment in the same order is that list in order
pub sorted_is : (ss ts : List Step) → IsNonDecreasingBy (λ s. s.at) ts → ((s : Step) → filter (ties earlier s) ts ≡ filter (ties earlier s) ss) → ts ≡ in_order ss
sorted_is ss ts r h =
    unique ts (in_order ss) (rising_of ts r) (rising_in_order ss)
    (λ n. tied n ts ∙ h (some_at n) ∙ sym (tied n ss) ∙ sym (moments_in_order n ss))
