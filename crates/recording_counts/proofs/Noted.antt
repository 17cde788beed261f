-- The first paths, one line more.
use Rattle.std.specs.Prelude.{◌≡◌, ℕ, zero, suc, ◌<◌, ◌≤◌, ◌||◌, ◌⊎◌, Bool, true, false, List, [], ◌∷◌, ◌++◌, length, take, filter, get_or, cond, Result, Ok, Err, OnOk, if◌then◌else◌}
use Rattle.std.specs.Str.{bytes_eq}
use Rattle.std.proofs.Common.{refl, ap, sym, ◌∙◌, arith, length-append, inl, inr}
use Rattle.std.proofs.Math.Seq.{get_or-append_seam}
use Rattle.std.proofs.lemmas.Bool.{cases_lt}
use Rattle.std.proofs.lemmas.List.{take_all, take-append-le, length-take, get_or_append_left}
use Rattle.std.proofs.lemmas.List.Folds.{list_any-append}
use Rattle.std.proofs.lemmas.Slice.Eq.{bytes_eq-Decides}
use Rattle.recording_counts.specs.Counted.{risen}
use Rattle.recording_counts.specs.Paths.{PathTable, PathsStandFor, firsts, is_among, times}
use Rattle.recording_counts.proofs.LineSteps.{filter_step}

or_false : (a b : Bool) → (a || b) ≡ false → (a ≡ false) × (b ≡ false)
or_false true b h = cc
or_false false b h = (refl, h)

pub same_bytes : (p : List ℕ) → bytes_eq p p ≡ true
same_bytes p = (bytes_eq-Decides p p).1 refl

-- a path that is not among some is not equal to one of them
not_equal : (p q : List ℕ) (paths : List (List ℕ)) (t : Bool) → bytes_eq q p ≡ t → is_among p paths ≡ false → is_among q paths ≡ true → t ≡ false
not_equal p q paths false e n y = refl
not_equal p q paths true e n y =
    let is : q ≡ p = (bytes_eq-Decides q p).0 e in
    let both : true ≡ false = sym y ∙ ap (λ x. is_among x paths) is ∙ n in
    both

differ : (p q : List ℕ) (t : Bool) → bytes_eq q p ≡ t → bytes_eq p q ≡ false → t ≡ false
differ p q false e n = refl
differ p q true e n = let is : p ≡ q = sym ((bytes_eq-Decides q p).0 e) in let both : true ≡ false = sym ((bytes_eq-Decides p q).1 is) ∙ n in both

-- a path that is not among the first ones never came
never : (p : List ℕ) (past : List (List ℕ)) → is_among p (firsts past) ≡ false → filter (λ x. bytes_eq x p) past ≡ []
never p [] h = refl
never p (q ∷ past) h =
    (elim (is_among q (firsts past)) as (λ v. is_among q (firsts past) ≡ v → is_among p (cond v (firsts past) (firsts past ++ q ∷ [])) ≡ false → filter (λ x. bytes_eq x p) (q ∷ past) ≡ []) [
      | true ↦ λ y n. rw (not_equal p q (firsts past) (bytes_eq q p) refl n y) (never p past n)
      | false ↦ λ y n.
          let parts = or_false (is_among p (firsts past)) (is_among p (q ∷ [])) (sym (list_any-append (λ x. bytes_eq p x) (firsts past) (q ∷ [])) ∙ n) in
          let other : bytes_eq q p ≡ false = differ p q (bytes_eq q p) refl (or_false (bytes_eq p q) false parts.1).0 in
          rw other (never p past parts.0)
    ]) refl h

among_take : (p : List ℕ) (n : ℕ) (paths : List (List ℕ)) → is_among p (take n paths) ≡ true → is_among p paths ≡ true
among_take p zero paths h = cc
among_take p (suc n) [] h = cc
among_take p (suc n) (q ∷ paths) h =
    (elim (bytes_eq p q) as (λ v. (v || is_among p (take n paths)) ≡ true → (v || is_among p paths) ≡ true) [ true ↦ λ k. refl | false ↦ λ k. among_take p n paths k ]) h

-- the number of a path
times_step : (q p : List ℕ) (past : List (List ℕ)) (n m : ℕ) → n ≡ (if bytes_eq p q then risen m else m) → m ≡ times q past → n ≡ times q (p ∷ past)
times_step q p past n m e h = filter_step (λ x. bytes_eq x q) p past (bytes_eq p q) n m refl e h

module _ (path : List ℕ) (past : List (List ℕ)) (old new : PathTable) (h : PathsStandFor past old)
    (raised : (i : ℕ) → i < length old.paths → get_or new.counts i 0 ≡ (if bytes_eq path (get_or old.paths i []) then risen (get_or old.counts i 0) else get_or old.counts i 0)) where
  pub counts_more : (i : ℕ) → i < length old.paths → get_or new.counts i 0 ≡ times (get_or old.paths i []) (path ∷ past)
  counts_more i lt = times_step (get_or old.paths i []) path past (get_or new.counts i 0) (get_or old.counts i 0) (raised i lt) (h.counts_are i lt)

  known_paths : is_among path old.paths ≡ true → take 8 (firsts past) ≡ take 8 (firsts (path ∷ past))
  known_paths k = let all : is_among path (firsts past) ≡ true = among_take path 8 (firsts past) (ap (λ ps. is_among path ps) (sym h.paths_are) ∙ k) in rw all refl

  -- a path that the table has
  pub known_more : is_among path old.paths ≡ true → new.paths ≡ old.paths → PathsStandFor (path ∷ past) new
  known_more k same = record {
    paths_are = same ∙ h.paths_are ∙ known_paths k;
    counts_are = λ i lt. counts_more i (omega (arith, lt, ap length same)) ∙ ap (λ ps. times (get_or ps i []) (path ∷ past)) (sym same);
  }

  full_paths : 8 ≤ length (firsts past) → (t : Bool) → take 8 (firsts past) ≡ take 8 (cond t (firsts past) (firsts past ++ path ∷ []))
  full_paths l true = refl
  full_paths l false = sym (take-append-le 8 (firsts past) (path ∷ []) l)

  -- a path that the table has not, where it is full
  pub full_more : length old.paths ≡ 8 → new.paths ≡ old.paths → PathsStandFor (path ∷ past) new
  full_more l same = record {
    paths_are = same ∙ h.paths_are ∙ full_paths (omega (arith, l, ap length h.paths_are, length-take 8 (firsts past))) (is_among path (firsts past));
    counts_are = λ i lt. counts_more i (omega (arith, lt, ap length same)) ∙ ap (λ ps. times (get_or ps i []) (path ∷ past)) (sym same);
  }

-- a path that the table has not, where there is room
module _ (path : List ℕ) (past : List (List ℕ)) (old new : PathTable) (h : PathsStandFor past old) (few : length old.paths < 8) (absent : is_among path old.paths ≡ false) where
  all_paths : old.paths ≡ firsts past
  all_paths = h.paths_are ∙ take_all 8 (firsts past) (omega (arith, few, ap length h.paths_are, length-take 8 (firsts past)))

  nowhere : is_among path (firsts past) ≡ false
  nowhere = ap (λ ps. is_among path ps) (sym all_paths) ∙ absent

  one : 1 ≡ times path (path ∷ past)
  one = rw (same_bytes path, never path past nowhere) refl

  grown : old.paths ++ path ∷ [] ≡ take 8 (firsts (path ∷ past))
  grown =
      rw nowhere
      (ap (λ ps. ps ++ path ∷ []) all_paths
      ∙ sym (take_all 8 (firsts past ++ path ∷ []) (omega (arith, length-append (firsts past) (path ∷ []), ap length all_paths, few))))

  module _ (p : new.paths ≡ old.paths ++ path ∷ []) (there : get_or new.counts (length old.paths) 0 ≡ 1)
      (others : (i : ℕ) → i < length old.paths → get_or new.counts i 0 ≡ times (get_or old.paths i []) (path ∷ past)) where
    at : (i : ℕ) → i < length new.paths → (i < length old.paths) ⊎ (length old.paths ≤ i) → get_or new.counts i 0 ≡ times (get_or new.paths i []) (path ∷ past)
    at i lt (inl k) = others i k ∙ ap (λ q. times q (path ∷ past)) (sym (ap (λ ps. get_or ps i []) p ∙ get_or_append_left old.paths (path ∷ []) [] i k))
    at i lt (inr k) =
        let is : i ≡ length old.paths = omega (arith, k, lt, ap length p, length-append old.paths (path ∷ [])) in
        let here : get_or new.paths i [] ≡ path = ap (λ ps. get_or ps i []) p ∙ ap (λ k. get_or (old.paths ++ path ∷ []) k []) is ∙ get_or-append_seam old.paths path [] [] in
        ap (λ k. get_or new.counts k 0) is ∙ there ∙ one ∙ ap (λ q. times q (path ∷ past)) (sym here)

    pub room_more : PathsStandFor (path ∷ past) new
    room_more = record { paths_are = p ∙ grown; counts_are = λ i lt. at i lt (cases_lt i (length old.paths)) }

-- a path that the table has not, put behind the others unless memory ran out
pub room_ok : {T E : Type 0} (r : Result T E) (path : List ℕ) (past : List (List ℕ)) (old mid new : PathTable) → PathsStandFor past old → length old.paths < 8 → is_among path old.paths ≡ false
    → ((i : ℕ) → i < length old.paths → get_or mid.counts i 0 ≡ (if bytes_eq path (get_or old.paths i []) then risen (get_or old.counts i 0) else get_or old.counts i 0))
    → OnOk r (new.paths ≡ old.paths ++ path ∷ []) → OnOk r (get_or new.counts (length old.paths) 0 ≡ 1)
    → ((i : ℕ) → i < length old.paths → OnOk r (get_or new.counts i 0 ≡ get_or mid.counts i 0)) → OnOk r (PathsStandFor (path ∷ past) new)
room_ok (Ok x) path past old mid new h few absent raised p one_there others =
    room_more path past old new h few absent p one_there (λ i lt. others i lt ∙ counts_more path past old mid h raised i lt)
room_ok (Err e) path past old mid new h few absent raised p one_there others = tt
