-- The channels and the ids that pass a test, one by one.
use Rattle.std.proofs.Common.{◌≡◌, ℕ, zero, suc, ◌+◌, ◌-◌, ◌<◌, ◌≤◌, ◌==◌, Bool, true, false, not, ◌&&◌, cond, List, [], ◌∷◌, ◌++◌, filter, flat_map, length, refl, sym, ap, ap₂, ◌∙◌, inl, inr, arith, append_assoc, append-nil}
use Rattle.std.specs.Prelude.{codes}
use Rattle.std.specs.Fmt.{decimal}
use Rattle.std.proofs.lemmas.List.Elements.{filter-append}
use Rattle.std.proofs.lemmas.Bool.{cases_eq, eq-eqb, ne_eqb}
use Rattle.bits32.specs.Set.{is_in, members, members_below}
use Rattle.window_snapshot.specs.Mask.{mask_has}
use Rattle.window_snapshot.proofs.Masks.{mask_has-zero}
use Rattle.dispatch_history.specs.Effects.{channels}
use Rattle.why_text.specs.Words.{below, channels_that, ids_that, joined, set_word, windows_word}
use Rattle.why_lines.specs.Lost.{behind_commas, ids_in}

not_so : (b : Bool) → (b ≡ true → ⊥) → b ≡ false
not_so true h = absurd (h refl)
not_so false h = refl

none_upto : (p : ℕ → Bool) (n : ℕ) → ((e : ℕ) → e ≤ n → p e ≡ false) → filter p (channels n) ≡ []
none_upto p zero h = refl
none_upto p (suc n) h =
    filter-append p (channels n) (suc n ∷ [])
    ∙ ap₂ (λ xs b. xs ++ cond b (suc n ∷ []) []) (none_upto p n (λ e high. h e (omega arith))) (h (suc n) (omega arith))

and_false : (a b : Bool) → b ≡ false → (a && b) ≡ false
and_false true b e = e
and_false false b e = refl

-- the channels up to n that pass a test, where c is the first of them and another test has all but c
from_first : (p q : ℕ → Bool) (c k n : ℕ) → n ≡ c + k → 1 ≤ c → p c ≡ true → ((e : ℕ) → p e ≡ true → c ≤ e)
    → ((e : ℕ) → q e ≡ (not (e == c) && p e)) → filter p (channels n) ≡ c ∷ filter q (channels n)
from_first p q c k zero at low is first rest = absurd (omega arith)
from_first p q c zero (suc m) at low is first rest =
    let here : suc m ≡ c = omega arith in
    filter-append p (channels m) (suc m ∷ [])
    ∙ ap₂ (λ xs b. xs ++ cond b (suc m ∷ []) []) (none_upto p m (λ e high. before e (omega arith))) (ap p here ∙ is)
    ∙ ap (λ x. x ∷ []) here
    ∙ ap (λ xs. c ∷ xs) (sym (none_upto q (suc m) (λ e high. no_more e (omega arith))))
  where
    before : (e : ℕ) → e < c → p e ≡ false
    before e less = not_so (p e) (λ t. omega (arith, first e t))

    no_more : (e : ℕ) → e ≤ c → q e ≡ false
    no_more e le =
        elim (cases_eq e c) [
          | inl same ↦ rest e ∙ ap (λ b. not b && p e) (eq-eqb e c same)
          | inr ne ↦ rest e ∙ and_false (not (e == c)) (p e) (before e (omega arith))
        ]
from_first p q c (suc k) (suc m) at low is first rest =
    filter-append p (channels m) (suc m ∷ [])
    ∙ ap₂ (λ xs b. xs ++ cond b (suc m ∷ []) []) (from_first p q c k m (omega arith) low is first rest) same
    ∙ ap (λ xs. c ∷ xs) (sym (filter-append q (channels m) (suc m ∷ [])))
  where
    other : suc m ≡ c → ⊥
    other e = omega arith

    same : p (suc m) ≡ q (suc m)
    same = sym (rest (suc m) ∙ ap (λ b. not b && p (suc m)) (ne_eqb (suc m) c other))

pub first_channel : (p q : ℕ → Bool) (c : ℕ) → 1 ≤ c → c ≤ 64 → p c ≡ true → ((e : ℕ) → p e ≡ true → c ≤ e)
    → ((e : ℕ) → q e ≡ (not (e == c) && p e)) → channels_that p ≡ c ∷ channels_that q
unfolding channels_that
first_channel p q c low high is first rest = from_first p q c (64 - c) 64 (omega arith) low is first rest

pub no_channel : (p : ℕ → Bool) → ((c : ℕ) → p c ≡ false) → channels_that p ≡ []
unfolding channels_that
no_channel p h = none_upto p 64 (λ e high. h e)

-- each number but the first stands behind a comma
pub joined_first : (n : ℕ) (ns : List ℕ) → joined (n ∷ ns) ≡ decimal n ++ behind_commas ns
joined_first n [] = sym (append-nil (decimal n))
joined_first n (m ∷ ns) = ap (λ xs. decimal n ++ codes "," ++ xs) (joined_first m ns) ∙ regroup (decimal n) (codes ",") (decimal m) (behind_commas ns)
  where
    regroup : (a b c d : List ℕ) → (a ++ b) ++ (c ++ d) ≡ a ++ ((b ++ c) ++ d)
    regroup a b c d = simp append_assoc

-- there are no numbers
abbrev pub is_none : List ℕ → Bool
is_none [] = true
is_none (n ∷ ns) = false

-- one number more
pub joined_last : (ns : List ℕ) (n : ℕ) → joined (ns ++ n ∷ []) ≡ joined ns ++ cond (is_none ns) (decimal n) (codes "," ++ decimal n)
joined_last [] n = refl
joined_last (m ∷ []) n = append_assoc (decimal m) (codes ",") (decimal n)
joined_last (m ∷ k ∷ ns) n =
    ap (λ xs. decimal m ++ codes "," ++ xs) (joined_last (k ∷ ns) n)
    ∙ sym (append_assoc (decimal m ++ codes ",") (joined (k ∷ ns)) (codes "," ++ decimal n))

-- the ids of a set are its numbers
pub members_are : (n set : ℕ) → filter (λ i. is_in i set) (below n) ≡ members_below n set
unfolding members_below
members_are zero set = refl
members_are (suc n) set = filter-append (λ i. is_in i set) (below n) (n ∷ []) ∙ ap (λ xs. xs ++ cond (is_in n set) (n ∷ []) []) (members_are n set) ∙ at (is_in n set)
  where
    at : (b : Bool) → members_below n set ++ cond b (n ∷ []) [] ≡ cond b (members_below n set ++ n ∷ []) (members_below n set)
    at true = refl
    at false = append-nil (members_below n set)

-- the ids of a set below n
abbrev pub ids_below : ℕ → ℕ → List ℕ
ids_below set n = filter (λ i. is_in i set) (below n)

-- what is written of them, and whether there is none
pub record Written (set n : ℕ) (start text : List ℕ) (is_first : Bool) : Type 0 where
  pub text_is : text ≡ start ++ joined (ids_below set n)
  pub first_is : is_first ≡ is_none (ids_below set n)

-- one id more
pub one_more : (set n m : ℕ) (start old new : List ℕ) (first later : Bool) → m ≡ suc n → Written set n start old first
    → new ≡ old ++ cond (is_in n set) (cond first (decimal n) (codes "," ++ decimal n)) [] → later ≡ (first && not (is_in n set))
    → Written set m start new later
one_more set n m start old new first later next w added is =
    let all : ids_below set m ≡ ids_below set n ++ cond (is_in n set) (n ∷ []) [] =
    ap (λ k. ids_below set k) next ∙ filter-append (λ i. is_in i set) (below n) (n ∷ []) in
    let t = by_test (is_in n set) (ids_below set n) first w.text_is w.first_is in
    record {
      text_is = added ∙ t.0 ∙ ap (λ xs. start ++ joined xs) (sym all);
      first_is = is ∙ t.1 ∙ ap is_none (sym all);
    }
  where
    by_test : (b : Bool) (ids : List ℕ) (f : Bool) → old ≡ start ++ joined ids → f ≡ is_none ids
        → (old ++ cond b (cond f (decimal n) (codes "," ++ decimal n)) [] ≡ start ++ joined (ids ++ cond b (n ∷ []) []))
        × ((f && not b) ≡ is_none (ids ++ cond b (n ∷ []) []))
    by_test false ids f e g =
        (append-nil old ∙ e ∙ ap (λ xs. start ++ joined xs) (sym (append-nil ids)), and_true f ∙ g ∙ ap is_none (sym (append-nil ids)))
      where
        and_true : (f : Bool) → (f && true) ≡ f
        and_true true = refl
        and_true false = refl
    by_test true ids f e g = (
      ap₂ (λ xs k. xs ++ cond k (decimal n) (codes "," ++ decimal n)) e g
          ∙ append_assoc start (joined ids) (cond (is_none ids) (decimal n) (codes "," ++ decimal n))
          ∙ ap (λ xs. start ++ xs) (sym (joined_last ids n)),
      and_nothing f ∙ sym (some_more ids),
    )
      where
        and_nothing : (f : Bool) → (f && false) ≡ false
        and_nothing true = refl
        and_nothing false = refl

        some_more : (ids : List ℕ) → is_none (ids ++ n ∷ []) ≡ false
        some_more [] = refl
        some_more (i ∷ is) = refl

-- the ids of a set are its numbers
pub ids_are : (set : ℕ) → ids_in set ≡ members set
unfolding ids_that
ids_are set = members_are 32 set

-- those of all ids are all
pub all_written : (set n : ℕ) (start text : List ℕ) (first : Bool) → n ≡ 32 → Written set n start text first → text ≡ start ++ joined (ids_in set)
unfolding ids_that
all_written set n start text first all w = w.text_is ∙ ap (λ k. start ++ joined (ids_below set k)) all

pub none_written : (set : ℕ) (start : List ℕ) → Written set 0 start start true
none_written set start = record { text_is = sym (append-nil start); first_is = refl }

-- a set without numbers has no ids
pub no_ids : (set : ℕ) → length (members set) ≡ 0 → ids_in set ≡ []
no_ids set none = ids_are set ∙ empty (members set) none
  where
    empty : (xs : List ℕ) → length xs ≡ 0 → xs ≡ []
    empty [] e = refl
    empty (x ∷ xs) e = absurd (omega (arith, e))

-- and another one has its first id in front
pub some_ids : (set : ℕ) → 0 < length (members set) → 0 < length (ids_in set)
some_ids set some = omega (arith, some, ap length (ids_are set))

pub set_of_ids : (ids : List ℕ) → 0 < length ids → set_word ids ≡ joined ids
set_of_ids [] some = absurd (omega (arith, some))
set_of_ids (i ∷ is) some = refl

-- one channel less is left to be written, each with some words
pub further_more : (words : ℕ → List ℕ) (mask rest c : ℕ) (all old new : List ℕ) → 1 ≤ c → c ≤ 64 → mask_has mask c ≡ true
    → ((e : ℕ) → mask_has mask e ≡ true → c ≤ e) → ((e : ℕ) → mask_has rest e ≡ (not (e == c) && mask_has mask e)) → new ≡ old ++ words c
    → old ++ flat_map words (channels_that (mask_has mask)) ≡ all → new ++ flat_map words (channels_that (mask_has rest)) ≡ all
further_more words mask rest c all old new low high is first others added before =
    ap (λ xs. xs ++ flat_map words (channels_that (mask_has rest))) added
    ∙ append_assoc old (words c) (flat_map words (channels_that (mask_has rest)))
    ∙ ap (λ cs. old ++ flat_map words cs) (sym (first_channel (mask_has mask) (mask_has rest) c low high is first others))
    ∙ before

-- no channel is left
pub further_done : (words : ℕ → List ℕ) (mask : ℕ) (all text : List ℕ) → mask ≡ 0 → text ++ flat_map words (channels_that (mask_has mask)) ≡ all → text ≡ all
further_done words mask all text none done =
    sym (append-nil text)
    ∙ ap (λ cs. text ++ flat_map words cs) (sym (no_channel (mask_has mask) (λ c. ap (λ m. mask_has m c) none ∙ mask_has-zero c)))
    ∙ done

-- the set of the windows of a mask, by the first of them
pub windows_first : (mask rest c : ℕ) → 1 ≤ c → c ≤ 64 → mask_has mask c ≡ true → ((e : ℕ) → mask_has mask e ≡ true → c ≤ e)
    → ((e : ℕ) → mask_has rest e ≡ (not (e == c) && mask_has mask e))
    → windows_word (mask_has mask) ≡ decimal c ++ behind_commas (channels_that (mask_has rest))
windows_first mask rest c low high is first others =
    ap set_word (first_channel (mask_has mask) (mask_has rest) c low high is first others) ∙ joined_first c (channels_that (mask_has rest))

pub no_windows : (mask : ℕ) → mask ≡ 0 → windows_word (mask_has mask) ≡ codes "-"
no_windows mask e = ap set_word (no_channel (mask_has mask) (λ c. ap (λ m. mask_has m c) e ∙ mask_has-zero c))
