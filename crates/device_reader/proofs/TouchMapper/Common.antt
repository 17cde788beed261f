-- The ids that are in both of two lists with rising ids, in their order.
use Rattle.std.specs.Prelude.{◌≡◌, ◌≢◌, ℕ, ◌<◌, ◌≤◌, ◌⊎◌, Bool, true, false, ◌||◌, nat_eq, List, [], ◌∷◌, filter, if◌then◌else◌}
use Rattle.std.proofs.Common.{sym, ◌∙◌, ap, subst, refl, arith, inl, inr, eq-eqb, ne_eqb}
use Rattle.std.proofs.lemmas.Bool.{cases_eq, cases_lt}
use Rattle.input_types.specs.declared.pointer.Pointer.{Pointer}
use Rattle.input_types.specs.Gestures.{ids_of}
use Rattle.device_reader.specs.TouchMapper.Rising.{IsAbove, Rises}
use Rattle.device_reader.specs.TouchMapper.Gesture.{is_down}

-- an id is in a list
abbrev pub has : List ℕ → ℕ → Bool
has [] i = false
has (x ∷ xs) i = nat_eq x i || has xs i

abbrev pub Over : ℕ → List ℕ → Type 0
Over n [] = Unit {0}
Over n (x ∷ xs) = (n < x) × Over n xs

abbrev pub Rising : List ℕ → Type 0
Rising [] = Unit {0}
Rising (x ∷ xs) = Over x xs × Rising xs

over_ids : (n : ℕ) (ps : List Pointer) → IsAbove n ps → Over n (ids_of ps)
over_ids n [] h = tt
over_ids n (p ∷ ps) h = (h.0, over_ids n ps h.1)

pub rising_ids : (ps : List Pointer) → Rises ps → Rising (ids_of ps)
rising_ids [] h = tt
rising_ids (p ∷ ps) h = (over_ids p.id ps h.0, rising_ids ps h.1)

pub has_ids : (ps : List Pointer) (i : ℕ) → is_down i ps ≡ has (ids_of ps) i
has_ids [] i = refl
has_ids (p ∷ ps) i = ap (λ b. nat_eq p.id i || b) (has_ids ps i)

filter_ids_at : (f : ℕ → Bool) (p : Pointer) (ps : List Pointer) (b : Bool) → ids_of (filter (λ (q : Pointer). f q.id) ps) ≡ filter f (ids_of ps)
    → ids_of (if b then p ∷ filter (λ (q : Pointer). f q.id) ps else filter (λ (q : Pointer). f q.id) ps)
    ≡ (if b then p.id ∷ filter f (ids_of ps) else filter f (ids_of ps))
filter_ids_at f p ps true h = ap (λ is. p.id ∷ is) h
filter_ids_at f p ps false h = h

pub filter_ids : (f : ℕ → Bool) (ps : List Pointer) → ids_of (filter (λ (q : Pointer). f q.id) ps) ≡ filter f (ids_of ps)
filter_ids f [] = refl
filter_ids f (p ∷ ps) = filter_ids_at f p ps (f p.id) (filter_ids f ps)

filter_none : (xs : List ℕ) → filter (λ i. has [] i) xs ≡ []
filter_none [] = refl
filter_none (x ∷ xs) = filter_none xs

over_lower : (m n : ℕ) (xs : List ℕ) → m < n → Over n xs → Over m xs
over_lower m n [] lt h = tt
over_lower m n (x ∷ xs) lt h = (omega (arith, lt, h.0), over_lower m n xs lt h.1)

-- an id below a list is none of it
not_in : (n : ℕ) (xs : List ℕ) → Over n xs → has xs n ≡ false
not_in n [] h = refl
not_in n (x ∷ xs) h =
    let ne : x ≢ n = omega (arith, h.0) in
    rw (ne_eqb x n ne) (not_in n xs h.1)

drop_step : (ys : List ℕ) (x : ℕ) (b : Bool) (fs gs : List ℕ) → fs ≡ gs → (if b then x ∷ fs else fs) ≡ (if b then x ∷ gs else gs)
drop_step ys x true fs gs h = ap (λ is. x ∷ is) h
drop_step ys x false fs gs h = h

orders_of : (a b : ℕ) → (a < b) ⊎ (b ≤ a) → (a ≡ b) ⊎ (a ≢ b) → (a < b) ⊎ ((a ≡ b) ⊎ (b < a))
orders_of a b (inl lt) e = inl lt
orders_of a b (inr le) (inl same) = inr (inl same)
orders_of a b (inr le) (inr other) = inr (inr (omega (arith, le, other)))

orders : (a b : ℕ) → (a < b) ⊎ ((a ≡ b) ⊎ (b < a))
orders a b = orders_of a b (cases_lt a b) (cases_eq a b)

-- an id below a list makes no difference to which of the list are in another
drop_low : (n : ℕ) (ys xs : List ℕ) → Over n xs → filter (λ i. has (n ∷ ys) i) xs ≡ filter (λ i. has ys i) xs
drop_low n ys [] h = refl
drop_low n ys (x ∷ xs) h =
    let ne : n ≢ x = omega (arith, h.0) in
    rw (ne_eqb n x ne) (drop_step ys x (has ys x) (filter (λ i. has (n ∷ ys) i) xs) (filter (λ i. has ys i) xs) (drop_low n ys xs h.1))

both_at : (a b : ℕ) (ks bs : List ℕ) → Rising (a ∷ ks) → Rising (b ∷ bs)
    → ((ys : List ℕ) → Rising ys → filter (λ i. has ys i) ks ≡ filter (λ i. has ks i) ys)
    → filter (λ i. has bs i) (a ∷ ks) ≡ filter (λ i. has (a ∷ ks) i) bs
    → (a < b) ⊎ ((a ≡ b) ⊎ (b < a))
    → filter (λ i. has (b ∷ bs) i) (a ∷ ks) ≡ filter (λ i. has (a ∷ ks) i) (b ∷ bs)
both_at a b ks bs ra rb shorter later (inl lower) =
    let ob : Over a (b ∷ bs) = (lower, over_lower a b bs lower rb.0) in
    rw (not_in a (b ∷ bs) ob) (shorter (b ∷ bs) rb ∙ sym (drop_low a ks (b ∷ bs) ob))
both_at a b ks bs ra rb shorter later (inr (inl same)) =
    let oa : Over b ks = subst (λ (n : ℕ). Over n ks) same ra.0 in
    let ob : Over a bs = subst (λ (n : ℕ). Over n bs) (sym same) rb.0 in
    let here : has (b ∷ bs) a ≡ true = rw (eq-eqb b a (sym same)) refl in
    let there : has (a ∷ ks) b ≡ true = rw (eq-eqb a b same) refl in
    rw (here, there)
    (ap (λ is. a ∷ is) (drop_low b bs ks oa ∙ shorter bs rb.1 ∙ sym (drop_low a ks bs ob))
    ∙ ap (λ n. n ∷ filter (λ i. has (a ∷ ks) i) bs) same)
both_at a b ks bs ra rb shorter later (inr (inr higher)) =
    let oa : Over b (a ∷ ks) = (higher, over_lower b a ks higher ra.0) in
    drop_low b bs (a ∷ ks) oa ∙ later ∙ (rw (not_in b (a ∷ ks) oa) refl)

both_from : (a : ℕ) (ks : List ℕ) → Rising (a ∷ ks) → ((ys : List ℕ) → Rising ys → filter (λ i. has ys i) ks ≡ filter (λ i. has ks i) ys)
    → (bs : List ℕ) → Rising bs → filter (λ i. has bs i) (a ∷ ks) ≡ filter (λ i. has (a ∷ ks) i) bs
both_from a ks ra shorter [] rb = filter_none (a ∷ ks)
both_from a ks ra shorter (b ∷ bs) rb = both_at a b ks bs ra rb shorter (both_from a ks ra shorter bs rb.1) (orders a b)

-- those of one list that are in the other are those of the other that are in the one
pub both : (ks bs : List ℕ) → Rising ks → Rising bs → filter (λ i. has bs i) ks ≡ filter (λ i. has ks i) bs
both [] bs ra rb = sym (filter_none bs)
both (a ∷ ks) bs ra rb = both_from a ks ra (λ ys ry. both ks ys ra.1 ry) bs rb
