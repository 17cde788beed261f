-- What comes first after a change of the map.
use Rattle.std.specs.Prelude.{◌≡◌, ◌≢◌, ◌⊎◌, ℕ, zero, suc, ◌-◌, ◌<◌, ◌≤◌, Bool, true, false, not, ◌&&◌, ◌||◌, ◌==◌, List, length, get_or, replicate, Option, Some, None, if◌then◌else◌}
use Rattle.std.specs.Int.{bit_not, w64}
use Rattle.std.proofs.Common.{refl, sym, subst, ◌∙◌, ap, arith, inl, inr, set, get_or-set_same, get_or-set_other}
use Rattle.std.proofs.lemmas.Nat.{and_le_l}
use Rattle.std.proofs.lemmas.List.{get_or-replicate, get_or_past, length-replicate}
use Rattle.std.proofs.lemmas.Bool.{cases_eq, eqb-false, ne_eqb, eq-eqb, and_left, and_from, or_right, both_ways, lt-ltb, le-leb}
use Rattle.std.proofs.lemmas.Bool.Decides.{nat_tests}
use Rattle.window_snapshot.specs.Mask.{is_channel, mask_has, mask_less, mask_with}
use Rattle.window_snapshot.proofs.Masks.{mask_has-with, mask_has-zero}
use Rattle.dispatcher.specs.AnrTracker.Due.{due_of, IsFirst, IsTable, is_before, is_of, is_put_off, sooner_of, further}

-- the map without the channels of a mask
abbrev pub due_but : (rest : ℕ) → (ℕ → Option ℕ) → ℕ → Option ℕ
due_but rest due c = if mask_has rest c then None else due c

before_itself : (m c : ℕ) → is_before (m, c) (m, c) ≡ false
before_itself m c = grind (arith, nat_tests)

-- what does not come before a pair comes before no pair that does
before_less : (n k m c o j : ℕ) → is_before (m, c) (o, j) ≡ true → is_before (n, k) (o, j) ≡ false
    → is_before (n, k) (m, c) ≡ false
before_less n k m c o j a b = grind (arith, nat_tests)

-- if a channel's moment is not later than that of the first pair, and its pair does not come before that pair, the
-- moments are equal
same_moment : (m o c j : ℕ) → j ≡ c → (j ≡ c → m ≤ o) → is_before (m, c) (o, j) ≡ false → m ≡ o
same_moment m o c j e h b = let le : m ≤ o = h e in grind (arith, nat_tests)

-- the pair of the channel that changes is the only one of this channel
alone : (g : ℕ → Option ℕ) (m c n k : ℕ) → g c ≡ Some m → g k ≡ Some n → k ≡ c → m ≡ n
alone g m c n k here at same = let there : g k ≡ g c = ap g same in cc

-- a first pair that is not postponed is of another channel or not at an earlier moment
not_put_off : (m c o j : ℕ) → is_put_off (Some (o, j)) (m, c) ≡ false → j ≡ c → m ≤ o
not_put_off m c o j h same = grind (arith, nat_tests)

-- no pair comes before that of the channel that changes, where it comes before the pair that was first
new_first : (f g : ℕ → Option ℕ) (m c o j n k : ℕ) → g c ≡ Some m → ((i : ℕ) → i ≢ c → g i ≡ f i)
    → ((q : ℕ × ℕ) → f q.1 ≡ Some q.0 → is_before q (o, j) ≡ false) → is_before (m, c) (o, j) ≡ true
    → g k ≡ Some n → (k ≡ c) ⊎ (k ≢ c) → is_before (n, k) (m, c) ≡ false
new_first f g m c o j n k here others least b at (inl same) =
    let one : m ≡ n = alone g m c n k here at same in
    rw (same, ← one) (before_itself m c)
new_first f g m c o j n k here others least b at (inr other) =
    before_less n k m c o j b (least (n, k) (sym (others k other) ∙ at))

-- no pair comes before the one that was first, where that of the channel that changes does not
old_first : (f g : ℕ → Option ℕ) (m c o j n k : ℕ) → g c ≡ Some m → ((i : ℕ) → i ≢ c → g i ≡ f i)
    → ((q : ℕ × ℕ) → f q.1 ≡ Some q.0 → is_before q (o, j) ≡ false) → is_before (m, c) (o, j) ≡ false
    → g k ≡ Some n → (k ≡ c) ⊎ (k ≢ c) → is_before (n, k) (o, j) ≡ false
old_first f g m c o j n k here others least b at (inl same) =
    let one : m ≡ n = alone g m c n k here at same in
    rw (same, ← one) b
old_first f g m c o j n k here others least b at (inr other) = least (n, k) (sym (others k other) ∙ at)

-- the pair that was first is still in the map
old_stays : (f g : ℕ → Option ℕ) (m c o j : ℕ) → g c ≡ Some m → ((i : ℕ) → i ≢ c → g i ≡ f i) → f j ≡ Some o
    → (j ≡ c → m ≤ o) → is_before (m, c) (o, j) ≡ false → (j ≡ c) ⊎ (j ≢ c) → g j ≡ Some o
old_stays f g m c o j here others was h b (inl same) =
    let one : m ≡ o = same_moment m o c j same h b in
    let there : g j ≡ g c = ap g same in cc
old_stays f g m c o j here others was h b (inr other) = others j other ∙ was

-- only the channel that changes is due
only : (f g : ℕ → Option ℕ) (m c n k : ℕ) → g c ≡ Some m → ((i : ℕ) → i ≢ c → g i ≡ f i) → ((i : ℕ) → f i ≡ None)
    → g k ≡ Some n → (k ≡ c) ⊎ (k ≢ c) → is_before (n, k) (m, c) ≡ false
only f g m c n k here others none at (inl same) =
    let one : m ≡ n = alone g m c n k here at same in
    rw (same, ← one) (before_itself m c)
only f g m c n k here others none at (inr other) =
    let left : g k ≡ f k = others k other in let gone : f k ≡ None = none k in cc

chosen : (f g : ℕ → Option ℕ) (m c : ℕ) (p : ℕ × ℕ) → g c ≡ Some m → ((i : ℕ) → i ≢ c → g i ≡ f i) → IsFirst f (Some p)
    → (p.1 ≡ c → m ≤ p.0) → (b : Bool) → is_before (m, c) p ≡ b → IsFirst g (Some (if b then (m, c) else p))
chosen f g m c p here others first h true b =
    (here, λ q at. new_first f g m c p.0 p.1 q.0 q.1 here others first.1 b at (cases_eq q.1 c))
chosen f g m c p here others first h false b = (
  old_stays f g m c p.0 p.1 here others first.0 h b (cases_eq p.1 c),
  λ q at. old_first f g m c p.0 p.1 q.0 q.1 here others first.1 b at (cases_eq q.1 c),
)

-- what comes first once a channel is due, if that does not postpone what came first
pub first_with : (f g : ℕ → Option ℕ) (m c : ℕ) (first : Option (ℕ × ℕ)) → g c ≡ Some m → ((i : ℕ) → i ≢ c → g i ≡ f i)
    → IsFirst f first → is_put_off first (m, c) ≡ false → IsFirst g (Some (sooner_of first (m, c)))
first_with f g m c None here others first h = (here, λ q at. only f g m c q.0 q.1 here others first at (cases_eq q.1 c))
first_with f g m c (Some p) here others first h =
    chosen f g m c p here others first (not_put_off m c p.0 p.1 h) (is_before (m, c) p) refl

-- what came first stays, once another channel is not due
pub first_without : (f g : ℕ → Option ℕ) (c : ℕ) (first : Option (ℕ × ℕ)) → g c ≡ None → ((i : ℕ) → i ≢ c → g i ≡ f i)
    → is_of first c ≡ false → IsFirst f first → IsFirst g first
first_without f g c None gone others away first = λ k. elim (cases_eq k c) [
  | inl same ↦ ap g same ∙ gone
  | inr other ↦ others k other ∙ first k
]
first_without f g c (Some p) gone others away first =
    (others p.1 (eqb-false p.1 c away) ∙ first.0, λ q at. still q at (cases_eq q.1 c))
  where
    still : (q : ℕ × ℕ) → g q.1 ≡ Some q.0 → (q.1 ≡ c) ⊎ (q.1 ≢ c) → is_before q p ≡ false
    still q at (inl same) = let there : g q.1 ≡ g c = ap g same in cc
    still q at (inr other) = first.1 q (sym (others q.1 other) ∙ at)

-- a channel that is not due is not the one that came first
not_first : (f : ℕ → Option ℕ) (c : ℕ) (first : Option (ℕ × ℕ)) → f c ≡ None → IsFirst f first → is_of first c ≡ false
not_first f c None gone h = refl
not_first f c (Some p) gone h = ne_eqb p.1 c (λ same. let there : f p.1 ≡ f c = ap f same in let due : f p.1 ≡ Some p.0 = h.0 in cc)

-- so it postpones nothing
nothing_off : (m c : ℕ) (first : Option (ℕ × ℕ)) → is_of first c ≡ false → is_put_off first (m, c) ≡ false
nothing_off m c None away = refl
nothing_off m c (Some p) away = and_left _ _ away

-- what comes first with a further channel, which may be due
further_first : (f g : ℕ → Option ℕ) (c : ℕ) (first : Option (ℕ × ℕ)) (due : Option ℕ) → g c ≡ due
    → ((i : ℕ) → i ≢ c → g i ≡ f i) → f c ≡ None → IsFirst f first → IsFirst g (further first due c)
further_first f g c first None here others gone h = first_without f g c first here others (not_first f c first gone h) h
further_first f g c first (Some m) here others gone h =
    first_with f g m c first here others h (nothing_off m c first (not_first f c first gone h))

-- a mask without a channel has the others
pub kept : (c mask later : ℕ) → ((k : ℕ) → mask_has later k ≡ (not (k == c) && mask_has mask k)) → (k : ℕ) → k ≢ c
    → mask_has later k ≡ mask_has mask k
kept c mask later without k other = without k ∙ ap (λ b. not b && mask_has mask k) (ne_eqb k c other)

-- and not itself
gone_itself : (c mask later : ℕ) → ((k : ℕ) → mask_has later k ≡ (not (k == c) && mask_has mask k)) → mask_has later c ≡ false
gone_itself c mask later without = without c ∙ ap (λ b. not b && mask_has mask c) (eq-eqb c c refl)

-- and is a lesser number
pub fewer : (c mask other later : ℕ) → mask_has mask c ≡ true → later ≡ mask_less mask other
    → ((k : ℕ) → mask_has later k ≡ (not (k == c) && mask_has mask k)) → later < mask
fewer c mask other later has is without =
    let le : mask_less mask other ≤ mask = and_le_l mask (bit_not w64 other) in
    elim (cases_eq later mask) [
      | inl same ↦ absurd (both_ways _ (sym (ap (λ m. mask_has m c) same) ∙ gone_itself c mask later without) has)
      | inr ne ↦ omega (arith, le, is, ne)
    ]

-- no channel has been examined
pub none_yet : (due : ℕ → Option ℕ) (pending : ℕ) → ((c : ℕ) → mask_has pending c ≡ false → due c ≡ None)
    → IsFirst (due_but pending due) None
none_yet due pending none c = at (mask_has pending c) refl
  where
    at : (b : Bool) → mask_has pending c ≡ b → (if b then None else due c) ≡ None
    at true e = refl
    at false e = none c e

-- one more has been examined
pub one_more : (due : ℕ → Option ℕ) (rest later c : ℕ) (first : Option (ℕ × ℕ)) → mask_has rest c ≡ true
    → ((k : ℕ) → mask_has later k ≡ (not (k == c) && mask_has rest k)) → IsFirst (due_but rest due) first
    → IsFirst (due_but later due) (further first (due c) c)
one_more due rest later c first has without h =
    further_first (due_but rest due) (due_but later due) c first (due c)
    (ap (λ b. if b then None else due c) (gone_itself c rest later without))
    (λ i other. ap (λ b. if b then None else due i) (kept c rest later without i other))
    (ap (λ b. if b then None else due c) has)
    h

-- all have been examined
pub all_seen : (due : ℕ → Option ℕ) (rest : ℕ) (first : Option (ℕ × ℕ)) → rest ≡ 0 → IsFirst (due_but rest due) first
    → IsFirst due first
all_seen due rest first over h = subst (λ f. IsFirst f first) (λ i c. seen c i) h
  where
    seen : (c : ℕ) → due_but rest due c ≡ due c
    seen c = ap (λ r. due_but r due c) over ∙ ap (λ b. if b then None else due c) (mask_has-zero c)

-- at most one pair comes first
pub one_first : (due : ℕ → Option ℕ) (a b : Option (ℕ × ℕ)) → IsFirst due a → IsFirst due b → a ≡ b
one_first due None None a b = refl
one_first due None (Some q) a b = let gone : due q.1 ≡ None = a q.1 in let there : due q.1 ≡ Some q.0 = b.0 in cc
one_first due (Some p) None a b = let gone : due p.1 ≡ None = b p.1 in let there : due p.1 ≡ Some p.0 = a.0 in cc
one_first due (Some p) (Some q) a b = ap (λ r. Some r) (same_pair p.0 p.1 q.0 q.1 (b.1 p a.0) (a.1 q b.0))
  where
    same_pair : (n k m c : ℕ) → is_before (n, k) (m, c) ≡ false → is_before (m, c) (n, k) ≡ false
        → ◌≡◌ {A = ℕ × ℕ} (n, k) (m, c)
    same_pair n k m c x y =
        let moments : n ≡ m = grind (arith, nat_tests) in
        let channels : k ≡ c = grind (arith, nat_tests) in
        λ i. (moments i, channels i)

-- in the table in which no channel is due
pub due-none : (n c : ℕ) → due_of (replicate n None) c ≡ None
due-none n zero = refl
due-none n (suc k) = within n k (cases n k)
  where
    none : Option ℕ
    none = None

    cases : (n k : ℕ) → (k < n) ⊎ (n ≤ k)
    cases n k = grind arith

    within : (n k : ℕ) → (k < n) ⊎ (n ≤ k) → get_or (replicate n none) k none ≡ none
    within n k (inl lt) = get_or-replicate n k None None lt
    within n k (inr le) = get_or_past (replicate n None) k None (rw length-replicate le)

-- in a table with one place written
pub due-set_same : (dues : List (Option ℕ)) (c : ℕ) (x : Option ℕ) → 1 ≤ c → c ≤ length dues
    → due_of (set dues (c - 1) x) c ≡ x
due-set_same dues zero x low high = absurd (omega arith)
due-set_same dues (suc k) x low high =
    let at : suc k - 1 ≡ k = omega arith in
    rw at (get_or-set_same dues k x None (omega arith))

pub due-set_other : (dues : List (Option ℕ)) (c : ℕ) (x : Option ℕ) → 1 ≤ c → (k : ℕ) → k ≢ c
    → due_of (set dues (c - 1) x) k ≡ due_of dues k
due-set_other dues c x low zero other = refl
due-set_other dues c x low (suc k) other =
    get_or-set_other dues (c - 1) k x None (λ same. other (omega arith))

pub none-table : IsTable (replicate 64 None) 0 0
none-table = record { whole = refl; none_below = λ c at is. omega arith; none_out = λ c out. due-none 64 c }

-- the mask with a channel has it
with_itself : (pending c : ℕ) → 1 ≤ c → c ≤ 64 → mask_has (mask_with pending c) c ≡ true
with_itself pending c low high =
    let of_one : is_channel c ≡ true = and_from _ _ (lt-ltb 0 c (omega (arith, low))) (le-leb c 64 high) in
    mask_has-with pending c c ∙ or_right (mask_has pending c) _ (and_from _ _ of_one (eq-eqb c c refl))

-- outside of a mask with a channel nothing is due that was not due outside of the mask
pub none_over : (dues : List (Option ℕ)) (x : Option ℕ) (c pending : ℕ) → 1 ≤ c → c ≤ 64
    → ((k : ℕ) → mask_has pending k ≡ false → due_of dues k ≡ None)
    → (k : ℕ) → mask_has (mask_with pending c) k ≡ false → due_of (set dues (c - 1) x) k ≡ None
none_over dues x c pending low high none k out = elim (cases_eq k c) [
  | inl same ↦ absurd (both_ways _ (ap (λ n. mask_has (mask_with pending c) n) (sym same) ∙ out) (with_itself pending c low high))
  | inr other ↦ due-set_other dues c x low k other ∙ none k (neither (mask_has pending k) _ (sym (mask_has-with pending c k) ∙ out))
]
  where
    neither : (a b : Bool) → (a || b) ≡ false → a ≡ false
    neither true b e = e
    neither false b e = refl

-- nor outside of a mask without it, once it is not due
pub none_left : (dues : List (Option ℕ)) (c pending later : ℕ) → 1 ≤ c → c ≤ length dues
    → ((k : ℕ) → mask_has pending k ≡ false → due_of dues k ≡ None)
    → ((k : ℕ) → mask_has later k ≡ (not (k == c) && mask_has pending k))
    → (k : ℕ) → mask_has later k ≡ false → due_of (set dues (c - 1) None) k ≡ None
none_left dues c pending later low high none without k out = elim (cases_eq k c) [
  | inl same ↦ rw same (due-set_same dues c None low high)
  | inr other ↦ due-set_other dues c None low k other ∙ none k (sym (kept c pending later without k other) ∙ out)
]
