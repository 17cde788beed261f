-- The soonest of some candidates.
use Rattle.std.proofs.Common.{◌≡◌, ℕ, ◌≤◌, ◌<◌, nat_lt, nat_le, Bool, true, false, cond, List, [], ◌∷◌, ◌++◌, filter, Option, Some, None, refl, ap, ◌∙◌, arith}
use Rattle.std.specs.Prelude.{fold}
use Rattle.std.proofs.lemmas.List.Sums.{fold-append}
use Rattle.std.proofs.lemmas.Bool.Decides.{nat_tests}
use Rattle.schedule.specs.Next.{up_to}
use Rattle.dispatch_history.specs.Ordered.{Candidate, sooner_of, soonest}

sooner_within : (t : ℕ) (b c : Candidate) → c.moment ≤ t → sooner_of (up_to t (Some b)) c ≡ up_to t (sooner_of (Some b) c)
sooner_within t b c le =
    (elim (nat_le b.moment t) as (λ v. nat_le b.moment t ≡ v → sooner_of (cond v (Some b) None) c ≡ up_to t (Some (cond (nat_lt c.moment b.moment) c b))) [
      | true ↦ λ e. inside e (nat_lt c.moment b.moment) refl
      | false ↦ λ e. outside e
    ]) refl
  where
    here : nat_le c.moment t ≡ true
    here = grind (arith, nat_tests)

    inside : nat_le b.moment t ≡ true → (v : Bool) → nat_lt c.moment b.moment ≡ v → Some (cond (nat_lt c.moment b.moment) c b) ≡ up_to t (Some (cond (nat_lt c.moment b.moment) c b))
    inside e true f = rw (f, here) refl
    inside e false f = rw (f, e) refl

    outside : nat_le b.moment t ≡ false → Some c ≡ up_to t (Some (cond (nat_lt c.moment b.moment) c b))
    outside e = let less : nat_lt c.moment b.moment ≡ true = grind (arith, nat_tests) in rw (less, here) refl

sooner_beyond : (t : ℕ) (b c : Candidate) → t < c.moment → up_to t (Some b) ≡ up_to t (sooner_of (Some b) c)
sooner_beyond t b c lt =
    (elim (nat_lt c.moment b.moment) as (λ v. nat_lt c.moment b.moment ≡ v → up_to t (Some b) ≡ up_to t (Some (cond v c b))) [
      | true ↦ λ e. let far : nat_le b.moment t ≡ false = grind (arith, nat_tests) in rw (far, there) refl
      | false ↦ λ e. refl
    ]) refl
  where
    there : nat_le c.moment t ≡ false
    there = grind (arith, nat_tests)

one_within : (t : ℕ) (o : Option Candidate) (c : Candidate) → nat_le c.moment t ≡ true → sooner_of (up_to t o) c ≡ up_to t (sooner_of o c)
one_within t None c e = rw e refl
one_within t (Some b) c e = let le : c.moment ≤ t = grind (arith, nat_tests) in sooner_within t b c le

one_beyond : (t : ℕ) (o : Option Candidate) (c : Candidate) → nat_le c.moment t ≡ false → up_to t o ≡ up_to t (sooner_of o c)
one_beyond t None c e = rw e refl
one_beyond t (Some b) c e = let lt : t < c.moment = grind (arith, nat_tests) in sooner_beyond t b c lt

fold_up_to : (t : ℕ) (o : Option Candidate) (cs : List Candidate)
    → fold sooner_of (up_to t o) (filter (λ c. nat_le c.moment t) cs) ≡ up_to t (fold sooner_of o cs)
fold_up_to t o [] = refl
fold_up_to t o (c ∷ cs) =
    (elim (nat_le c.moment t) as (λ v. nat_le c.moment t ≡ v → fold sooner_of (up_to t o) (cond v (c ∷ filter (λ d. nat_le d.moment t) cs) (filter (λ d. nat_le d.moment t) cs)) ≡ up_to t (fold sooner_of (sooner_of o c) cs)) [
      | true ↦ λ e. ap (λ x. fold sooner_of x (filter (λ d. nat_le d.moment t) cs)) (one_within t o c e) ∙ fold_up_to t (sooner_of o c) cs
      | false ↦ λ e. ap (λ x. fold sooner_of x (filter (λ d. nat_le d.moment t) cs)) (one_beyond t o c e) ∙ fold_up_to t (sooner_of o c) cs
    ]) refl

-- the soonest of those that are due up to a moment is the soonest of all, where that is
pub soonest_up_to : (t : ℕ) (cs : List Candidate) → soonest (filter (λ c. nat_le c.moment t) cs) ≡ up_to t (soonest cs)
soonest_up_to t cs = fold_up_to t None cs

-- one candidate more behind the others
pub soonest_more : (cs ds : List Candidate) → soonest (cs ++ ds) ≡ fold sooner_of (soonest cs) ds
soonest_more cs ds = fold-append sooner_of None cs ds

-- all of these are due no sooner
abbrev pub NoneSooner : ℕ → List Candidate → Type 0
NoneSooner t [] = Unit {0}
NoneSooner t (c ∷ cs) = (t ≤ c.moment) × NoneSooner t cs

stays : (b : Candidate) (cs : List Candidate) → NoneSooner b.moment cs → fold sooner_of (Some b) cs ≡ Some b
stays b [] h = refl
stays b (c ∷ cs) h =
    let late : nat_lt c.moment b.moment ≡ false = grind (arith, nat_tests, h.0) in
    ap (λ v. fold sooner_of (Some (cond v c b)) cs) late ∙ stays b cs h.1

less : (t u : ℕ) (cs : List Candidate) → t ≤ u → NoneSooner u cs → NoneSooner t cs
less t u [] le h = tt
less t u (c ∷ cs) le h = (omega (arith, h.0), less t u cs le h.1)

-- of candidates of which the first is the soonest, that one alone counts
pub first_counts : (o : Option Candidate) (c : Candidate) (cs : List Candidate) → NoneSooner c.moment cs → fold sooner_of o (c ∷ cs) ≡ sooner_of o c
first_counts None c cs h = stays c cs h
first_counts (Some b) c cs h =
    (elim (nat_lt c.moment b.moment) as (λ v. nat_lt c.moment b.moment ≡ v → fold sooner_of (Some (cond v c b)) cs ≡ Some (cond v c b)) [
      | true ↦ λ e. stays c cs h
      | false ↦ λ e. let le : b.moment ≤ c.moment = grind (arith, nat_tests) in stays b cs (less b.moment c.moment cs le h)
    ]) refl
