-- Pairing sections in the order of their places is pairing as the definition says.
use Rattle.std.proofs.Common.{◌≡◌, ◌≢◌, ℕ, zero, suc, Bool, ◌+◌, ◌<◌, ◌≤◌, ◌&&◌, true, false, if◌then◌else◌, List, [], ◌∷◌, length, get_or, set, replicate, Option, Some, None, ⊎_elim, refl, sym, ap, ◌∙◌, arith, nat_eq, nat_le, eq-eqb}
use Rattle.std.proofs.lemmas.Bool.{cases_eq, le-leb, leb-true, ne_eqb}
use Rattle.std.proofs.lemmas.Bool.Decides.{nat_tests}
use Rattle.std.proofs.lemmas.List.{get_or-set_same, get_or-set_other}
use Rattle.std.specs.Option.{option_map}
use Rattle.compare_text.specs.Pairing.{first_at, left_from}
use Rattle.compare_text.specs.Pairs.{take_first}
use Rattle.compare_text.specs.Points.{Section}

-- ---- none is paired yet

no_place : (x n k : ℕ) → get_or (replicate n x) k x ≡ x
no_place x zero k = refl
no_place x (suc n) zero = refl
no_place x (suc n) (suc k) = no_place x n k

pub all_left : (from : List ℕ) (i : ℕ) (ss : List Section) → ((k : ℕ) → get_or from k 0 ≡ 0) → left_from i from ss ≡ ss
all_left from i [] h = refl
all_left from i (s ∷ ss) h = rw (h s.id, le-leb 0 i (omega arith), all_left from (i + 1) ss h) refl

pub at_first : (i : ℕ) (ss : List Section) → left_from i (replicate 65 0) ss ≡ ss
at_first i ss = all_left (replicate 65 0) i ss (λ k. no_place 0 65 k)

-- ---- one is paired

not_le : (a b : ℕ) → b < a → nat_le a b ≡ false
not_le a b h = grind (arith, nat_tests)

same_test : (from : List ℕ) (id k j t : ℕ) → id < length from → get_or from id 0 ≤ j → k ≤ j → nat_le (get_or (set from id k) t 0) j ≡ nat_le (get_or from t 0) j
same_test from id k j t room before later =
    ⊎_elim
    (λ (same : t ≡ id). rw (same, get_or-set_same from id k 0 room, le-leb k j later, le-leb (get_or from id 0) j before) refl)
    (λ (other : t ≢ id). rw (get_or-set_other from id t k 0 other) refl)
    (cases_eq t id)

unmoved : (from : List ℕ) (id k j : ℕ) (ss : List Section) → id < length from → get_or from id 0 ≤ j → k ≤ j → left_from j (set from id k) ss ≡ left_from j from ss
unmoved from id k j [] room before later = refl
unmoved from id k j (s ∷ ss) room before later =
    rw (same_test from id k j s.id room before later, unmoved from id k (j + 1) ss room (omega (arith, before)) (omega (arith, later))) refl

above_at : (i : ℕ) (s : Section) (v : Bool) (rest : Option (ℕ × Section)) (r : ℕ × Section) → (if v then Some (i, s) else rest) ≡ Some r
    → (rest ≡ Some r → i + 1 ≤ r.0) → i ≤ r.0
above_at i s true rest r h later = let same : i ≡ r.0 = cc in omega (arith, same)
above_at i s false rest r h later = let l = later h in omega (arith, l)

above : (from id i : ℕ) (ss : List Section) (r : ℕ × Section) → first_at from id i ss ≡ Some r → i ≤ r.0
above from id i [] r h = absurd (cc)
above from id i (s ∷ ss) r h =
    above_at i s (nat_le from i && nat_eq s.id id) (first_at from id (i + 1) ss) r h (λ e. above from id (i + 1) ss r e)

mapped_alike : {A B : Type 0} (f g : A → B) (o : Option A) → ((r : A) → o ≡ Some r → f r ≡ g r) → option_map f o ≡ option_map g o
mapped_alike f g None h = refl
mapped_alike f g (Some r) h = ap (λ x. Some x) (h r refl)

mapped_twice : {A B C : Type 0} (f : A → B) (g : B → C) (o : Option A) → option_map g (option_map f o) ≡ option_map (λ x. g (f x)) o
mapped_twice f g None = refl
mapped_twice f g (Some r) = refl

and_true : (a : Bool) → (a && true) ≡ a
and_true true = refl
and_true false = refl

and_false : (a : Bool) → (a && false) ≡ false
and_false true = refl
and_false false = refl

-- what is left after a section that is found
abbrev Rest : List ℕ → ℕ → ℕ → List Section → ℕ × Section → Section × List Section
Rest from id i ss r = (r.1, left_from i (set from id (r.0 + 1)) ss)

own_here : (from : List ℕ) (id i : ℕ) (s : Section) (ss : List Section) → id < length from → s.id ≡ id → get_or from id 0 ≤ i
    → left_from (i + 1) from ss ≡ left_from i (set from id (i + 1)) (s ∷ ss)
own_here from id i s ss room same before =
    rw (same, get_or-set_same from id (i + 1) 0 room, not_le (i + 1) i (omega arith))
    (sym (unmoved from id (i + 1) (i + 1) ss room (omega (arith, before)) (omega arith)))

own_at : (from : List ℕ) (id i : ℕ) (s : Section) (ss : List Section) (v : Bool) → nat_le (get_or from id 0) i ≡ v → id < length from → s.id ≡ id
    → take_first id (left_from (i + 1) from ss) ≡ option_map (Rest from id (i + 1) ss) (first_at (get_or from id 0) id (i + 1) ss)
    → take_first id (if v then s ∷ left_from (i + 1) from ss else left_from (i + 1) from ss)
    ≡ option_map (Rest from id i (s ∷ ss)) (if v then Some (i, s) else first_at (get_or from id 0) id (i + 1) ss)
own_at from id i s ss true e room same later =
    rw (eq-eqb s.id id same) (ap (λ l. Some (s, l)) (own_here from id i s ss room same (leb-true (get_or from id 0) i e)))
own_at from id i s ss false e room same later =
    later
    ∙ mapped_alike (Rest from id (i + 1) ss) (Rest from id i (s ∷ ss)) (first_at (get_or from id 0) id (i + 1) ss) (λ r found.
    let far = above (get_or from id 0) id (i + 1) ss r found in
    rw (same, get_or-set_same from id (r.0 + 1) 0 room, not_le (r.0 + 1) i (omega (arith, far))) refl)

other_at : (from : List ℕ) (id i : ℕ) (s : Section) (ss : List Section) (o : Option (ℕ × Section)) (v : Bool) → nat_le (get_or from s.id 0) i ≡ v → s.id ≢ id
    → take_first id (left_from (i + 1) from ss) ≡ option_map (Rest from id (i + 1) ss) o
    → take_first id (if v then s ∷ left_from (i + 1) from ss else left_from (i + 1) from ss) ≡ option_map (Rest from id i (s ∷ ss)) o
other_at from id i s ss o true e other later =
    rw (ne_eqb s.id id other)
    (ap (option_map (λ r. (r.0, s ∷ r.1))) later
    ∙ mapped_twice (Rest from id (i + 1) ss) (λ r. (r.0, s ∷ r.1)) o
    ∙ mapped_alike (λ r. (r.1, s ∷ left_from (i + 1) (set from id (r.0 + 1)) ss)) (Rest from id i (s ∷ ss)) o
    (λ r is. rw (get_or-set_other from id s.id (r.0 + 1) 0 other, e) refl))
other_at from id i s ss o false e other later =
    later
    ∙ mapped_alike (Rest from id (i + 1) ss) (Rest from id i (s ∷ ss)) o
    (λ r is. rw (get_or-set_other from id s.id (r.0 + 1) 0 other, e) refl)

pub picks : (from : List ℕ) (id i : ℕ) (ss : List Section) → id < length from
    → take_first id (left_from i from ss) ≡ option_map (λ r. (r.1, left_from i (set from id (r.0 + 1)) ss)) (first_at (get_or from id 0) id i ss)
picks from id i [] room = refl
picks from id i (s ∷ ss) room =
    let later = picks from id (i + 1) ss room in
    ⊎_elim
    (λ (same : s.id ≡ id).
    let test : nat_le (get_or from s.id 0) i ≡ nat_le (get_or from id 0) i = ap (λ k. nat_le (get_or from k 0) i) same in
    let whole : (nat_le (get_or from id 0) i && nat_eq s.id id) ≡ nat_le (get_or from id 0) i =
    rw (eq-eqb s.id id same) (and_true (nat_le (get_or from id 0) i)) in
    rw (whole, test) (own_at from id i s ss (nat_le (get_or from id 0) i) refl room same later))
    (λ (other : s.id ≢ id).
    rw (ne_eqb s.id id other, and_false (nat_le (get_or from id 0) i))
    (other_at from id i s ss (first_at (get_or from id 0) id (i + 1) ss) (nat_le (get_or from s.id 0) i) refl other later))
    (cases_eq s.id id)
