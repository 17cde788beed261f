-- The sections that are looked at, and what is answered of them.
use Rattle.std.proofs.Common.{◌≡◌, ℕ, ◌+◌, ◌<◌, ◌≤◌, Bool, true, false, cond, List, [], ◌∷◌, ◌++◌, length, map, drop, get_or, Option, Some, None, Ok, refl, sym, ap, ◌∙◌, arith, append_assoc}
use Rattle.std.specs.Prelude.{flat_map}
use Rattle.std.specs.Option.{option_or}
use Rattle.compare_text.specs.declared.comparison.Comparison.{Comparison}
use Rattle.compare_text.specs.declared.error.CompareError.{CompareError}
use Rattle.compare_text.specs.declared.measure.Measure.{Measure}
use Rattle.compare_text.specs.declared.section.Opened.{Opened}
use Rattle.compare_text.specs.Compared.{answer, first_fault, point_pairs, said, same_line}
use Rattle.compare_text.specs.Indexed.{count_of, seen}
use Rattle.compare_text.specs.Measured.{PointPair, joined, measure}
use Rattle.compare_text.specs.Pairing.{measured_after}
use Rattle.compare_text.specs.Pairs.{is_of, of_channel, pair_with, pairs, take_first, unnamed}
use Rattle.compare_text.specs.Points.{Section}
use Rattle.compare_text.proofs.Going.{split, told}
use Rattle.compare_text.proofs.Measures.{none_joined}

one_of_at : (channel : Option ℕ) (s : Section) (rest : List Section) (t : Bool)
    → map unnamed (cond t (s ∷ []) []) ++ map unnamed (of_channel channel rest) ≡ map unnamed (cond t (s ∷ of_channel channel rest) (of_channel channel rest))
one_of_at channel s rest true = refl
one_of_at channel s rest false = refl

one_of : (channel : Option ℕ) (s : Section) (rest : List Section)
    → map unnamed (of_channel channel (s ∷ [])) ++ map unnamed (of_channel channel rest) ≡ map unnamed (of_channel channel (s ∷ rest))
one_of channel s rest = one_of_at channel s rest (is_of channel s.id)

-- a section more, or none
pub chosen_more : (channel : Option ℕ) (xs : List Opened) (i : ℕ) (s : Opened) (front new all : List Section) → i < length xs → s ≡ get_or xs i s
    → new ≡ front ++ map unnamed (of_channel channel (seen s ∷ [])) → front ++ map unnamed (of_channel channel (map seen (drop i xs))) ≡ all
    → new ++ map unnamed (of_channel channel (map seen (drop (i + 1) xs))) ≡ all
chosen_more channel xs i s front new all low is added before =
    let rest = map seen (drop (i + 1) xs) in
    ap (λ l. l ++ map unnamed (of_channel channel rest)) added
    ∙ append_assoc front (map unnamed (of_channel channel (seen s ∷ []))) (map unnamed (of_channel channel rest))
    ∙ ap (λ l. front ++ l) (one_of channel (seen s) rest)
    ∙ ap (λ l. front ++ map unnamed (of_channel channel (map seen l))) (sym (split xs i s low is))
    ∙ before

few_chosen_at : (channel : Option ℕ) (s : Section) (rest : List Section) (t : Bool) → count_of (map unnamed (of_channel channel rest)) ≤ count_of rest
    → count_of (map unnamed (cond t (s ∷ of_channel channel rest) (of_channel channel rest))) ≤ length s.messages + count_of rest
few_chosen_at channel s rest true h = omega (arith, h)
few_chosen_at channel s rest false h = omega (arith, h)

pub few_chosen : (channel : Option ℕ) (ss : List Section) → count_of (map unnamed (of_channel channel ss)) ≤ count_of ss
few_chosen channel [] = omega arith
few_chosen channel (s ∷ ss) = few_chosen_at channel s ss (is_of channel s.id) (few_chosen channel ss)

-- ---- answers

-- if there is no fault, there are as many pairs as expected sections
as_many : (c : Comparison) (want got : List Section) → first_fault c (pairs want got) ≡ None → length (pairs want got) ≡ length want
as_many c [] [] h = refl
as_many c [] (g ∷ gs) h = absurd (cc)
as_many c (w ∷ ws) got h = by_found (λ others none. as_many c ws others none) (take_first w.id got) h
  where
    neither : (a b : Option CompareError) → option_or a b ≡ None → b ≡ None
    neither None b e = e
    neither (Some x) b e = absurd (cc)

    by_found : ((others : List Section) → first_fault c (pairs ws others) ≡ None → length (pairs ws others) ≡ length ws) → (o : Option (Section × List Section))
        → first_fault c (pair_with w got o (λ others. pairs ws others)) ≡ None
        → length (pair_with w got o (λ others. pairs ws others)) ≡ length (w ∷ ws)
    by_found later None e = absurd (cc)
    by_found later (Some found) e = let rest = later found.1 (neither _ (first_fault c (pairs ws found.1)) e) in omega (arith, rest)

said_at : (fault : Option CompareError) (n : ℕ) (ps : List PointPair) (m : Measure) → measured_after (measure []) fault ps ≡ Ok m
    → (fault ≡ None) × (answer fault n (measure ps) ≡ Ok (same_line n m))
said_at None n ps m h =
    let is : joined (measure []) (measure ps) ≡ m = cc in (refl, ap (λ k. Ok (same_line n k)) (sym (none_joined (measure ps)) ∙ is))
said_at (Some x) n ps m h = absurd (cc)

pub said_same : (c : Comparison) (want got : List Section) (m : Measure) → told c (measure []) want got ≡ Ok m
    → said c (pairs want got) ≡ Ok (same_line (length want) m)
said_same c want got m h =
    let ps = pairs want got in
    let (none, is) = said_at (first_fault c ps) (length ps) (flat_map (point_pairs c.each_move) ps) m h in
    is ∙ ap (λ n. Ok (same_line n m)) (as_many c want got none)
