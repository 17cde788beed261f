-- What `compare` says about the sections of two stream files.
use Rattle.std.specs.Prelude.{codes, ◌≡◌, ℕ, Bool, List, [], ◌∷◌, ◌++◌, length, flat_map, Option, Some, None, Result, Ok, Err}
use Rattle.std.specs.Fmt.{decimal}
use Rattle.std.specs.Option.{option_map, option_or}
use Rattle.input_types.specs.declared.message.Message.{Message}
use Rattle.compare_text.specs.declared.comparison.Comparison.{Comparison}
use Rattle.compare_text.specs.declared.error.CompareError.{CompareError}
use Rattle.compare_text.specs.declared.error.CompareError.TheVariants.{Differs, Missing, Added, NoSection, NewSection, Memory}
use Rattle.compare_text.specs.declared.measure.Measure.{Measure}
use Rattle.compare_text.specs.Differing.{difference_of}
use Rattle.compare_text.specs.Measured.{PointPair, measure}
use Rattle.compare_text.specs.Pairs.{Pair, Both, Lone, New, looked_at, pairs}
use Rattle.compare_text.specs.Points.{Section, points_in}

-- The first difference of expected and actual points, paired in order: two that do not agree, or one without a
-- partner because the other section has ended.
abbrev pub first_difference : (us pixels : ℕ) → (want got : List (ℕ × Message)) → Option CompareError
first_difference us pixels [] [] = None
first_difference us pixels (w ∷ ws) [] = Some (Missing w.0)
first_difference us pixels [] (g ∷ gs) = Some (Added g.0)
first_difference us pixels (w ∷ ws) (g ∷ gs) = option_or (option_map (Differs w.0 g.0) (difference_of us pixels w.1 g.1)) (first_difference us pixels ws gs)

-- the fault of a pair of sections
abbrev pub fault_in : Comparison → Pair → Option CompareError
fault_in c (Both w g) = first_difference c.tolerance.us c.tolerance.pixels (points_in c.each_move w.messages) (points_in c.each_move g.messages)
fault_in c (Lone w) = Some (NoSection w.line)
fault_in c (New g) = Some (NewSection g.line)

-- the first fault of pairs
abbrev pub first_fault : Comparison → List Pair → Option CompareError
first_fault c [] = None
first_fault c (p ∷ ps) = option_or (fault_in c p) (first_fault c ps)

-- expected and actual points, paired in order
abbrev pub points_paired : (want got : List (ℕ × Message)) → List PointPair
points_paired (w ∷ ws) (g ∷ gs) = (w.1, g.1) ∷ points_paired ws gs
points_paired _ _ = []

-- the pairs of points of a pair of sections
abbrev pub point_pairs : (each_move : Bool) → Pair → List PointPair
point_pairs each_move (Both w g) = points_paired (points_in each_move w.messages) (points_in each_move g.messages)
point_pairs each_move _ = []

-- the pairs of the sections of two files that are looked at
abbrev pub pairs_of : Comparison → (want got : List Section) → List Pair
pairs_of c want got = pairs (looked_at c.want_channel c.got_channel want) (looked_at c.got_channel c.want_channel got)

-- the line that says that everything agrees: how many pairs of sections and of points there are, and the greatest
-- distances
unfoldable pub same_line : (sections : ℕ) → Measure → List ℕ
same_line sections m =
    codes "same " ++ (decimal sections
    ++ (codes " " ++ (decimal m.points ++ (codes " us " ++ (decimal m.us ++ (codes " pixels " ++ (decimal m.pixels ++ codes "\n")))))))

-- the first fault of two files
abbrev pub fault_of : Comparison → (want got : List Section) → Option CompareError
fault_of c want got = first_fault c (pairs_of c want got)

-- the answer
abbrev pub answer : Option CompareError → (sections : ℕ) → Measure → Result (List ℕ) CompareError
answer None sections m = Ok (same_line sections m)
answer (Some fault) sections m = Err fault

-- the result for pairs of sections
abbrev pub said : Comparison → List Pair → Result (List ℕ) CompareError
said c ps = answer (first_fault c ps) (length ps) (measure (flat_map (point_pairs c.each_move) ps))

-- the result for expected and actual sections
abbrev pub compared : Comparison → (want got : List Section) → Result (List ℕ) CompareError
compared c want got = said c (pairs_of c want got)

-- what is compared is refused so, or memory ran out
abbrev pub Refuses : Result (List ℕ) CompareError → CompareError → Type 0
Refuses compared Memory = Unit {0}
Refuses compared error = compared ≡ Err error
