-- Measures of more and more pairs.
use Rattle.std.proofs.Common.{◌≡◌, ℕ, ◌+◌, ◌≤◌, Bool, true, false, cond, List, [], ◌∷◌, ◌++◌, length, map, Option, Some, None, Result, Ok, Err, refl, sym, ap, ◌∙◌, arith, length-append}
use Rattle.std.specs.Prelude.{max, filter}
use Rattle.std.proofs.lemmas.List.{map-append}
use Rattle.std.specs.Int.{abs_diff}
use Rattle.std.specs.Option.{option_map, option_or}
use Rattle.input_types.specs.declared.message.Message.{Message}
use Rattle.compare_text.specs.declared.error.CompareError.{CompareError}
use Rattle.compare_text.specs.declared.error.CompareError.TheVariants.{Differs}
use Rattle.compare_text.specs.declared.measure.Measure.{Measure}
use Rattle.compare_text.specs.declared.difference.Difference.{Difference}
use Rattle.compare_text.specs.Compared.{first_difference, points_paired}
use Rattle.compare_text.specs.Differing.{difference_of}
use Rattle.compare_text.specs.Measured.{PointPair, body_distances, greatest, joined, measure, with_pair}
use Rattle.compare_text.specs.Pairing.{measured_after, points_say}
use Rattle.compare_text.specs.Points.{is_point, points_in}

abbrev made : ℕ → ℕ → ℕ → Measure
made points us pixels = record { points = points; us = us; pixels = pixels }

same_made : (p q u v x y : ℕ) → p ≡ q → u ≡ v → x ≡ y → made p u x ≡ made q v y
same_made p q u v x y e f g = rw (e, f, g) refl

greatest_both : (xs ys : List ℕ) → greatest (xs ++ ys) ≡ max (greatest xs) (greatest ys)
greatest_both [] ys = omega arith
greatest_both (x ∷ xs) ys = omega (arith, greatest_both xs ys)

abbrev moments_apart : PointPair → ℕ
moments_apart p = abs_diff p.0.moment p.1.moment

abbrev places_apart : PointPair → ℕ
places_apart p = greatest (body_distances p.0.body p.1.body)

measure_both : (ps qs : List PointPair) → measure (ps ++ qs) ≡ joined (measure ps) (measure qs)
measure_both ps qs =
    same_made _ _ _ _ _ _ (length-append ps qs)
    (ap greatest (map-append moments_apart ps qs) ∙ greatest_both (map moments_apart ps) (map moments_apart qs))
    (ap greatest (map-append places_apart ps qs) ∙ greatest_both (map places_apart ps) (map places_apart qs))

joined_twice : (m n k : Measure) → joined m (joined n k) ≡ joined (joined m n) k
joined_twice m n k = same_made _ _ _ _ _ _ (omega arith) (omega arith) (omega arith)

pub joined_none : (m : Measure) → joined m (measure []) ≡ m
joined_none m = same_made (m.points + 0) m.points (max m.us 0) m.us (max m.pixels 0) m.pixels (omega arith) (omega arith) (omega arith)

pub none_joined : (m : Measure) → joined (measure []) m ≡ m
none_joined m = same_made (0 + m.points) m.points (max 0 m.us) m.us (max 0 m.pixels) m.pixels (omega arith) (omega arith) (omega arith)

-- pairs behind others
pub measured_both : (m : Measure) (fault : Option CompareError) (ps qs : List PointPair)
    → measured_after m fault (ps ++ qs) ≡ measured_after (joined m (measure ps)) fault qs
measured_both m None ps qs = ap (λ n. Ok (joined m n)) (measure_both ps qs) ∙ ap (λ n. Ok n) (joined_twice m (measure ps) (measure qs))
measured_both m (Some fault) ps qs = refl

one_more : (m : Measure) (a b : Message) (ps : List PointPair) → joined m (measure ((a, b) ∷ ps)) ≡ joined (with_pair m a b) (measure ps)
one_more m a b ps = same_made _ _ _ _ _ _ (omega arith) (omega arith) (omega arith)

measured_more : (m : Measure) (a b : Message) (fault : Option CompareError) (ps : List PointPair)
    → measured_after m fault ((a, b) ∷ ps) ≡ measured_after (with_pair m a b) fault ps
measured_more m a b None ps = ap (λ n. Ok n) (one_more m a b ps)
measured_more m a b (Some fault) ps = refl

-- two points that agree
pub pair_agrees : (us pixels : ℕ) (m : Measure) (w g : ℕ × Message) (ws gs : List (ℕ × Message)) → difference_of us pixels w.1 g.1 ≡ None
    → points_say us pixels m (w ∷ ws) (g ∷ gs) ≡ points_say us pixels (with_pair m w.1 g.1) ws gs
pair_agrees us pixels m w g ws gs none =
    ap (λ d. measured_after m (option_or (option_map (Differs w.0 g.0) d) (first_difference us pixels ws gs)) ((w.1, g.1) ∷ points_paired ws gs)) none
    ∙ measured_more m w.1 g.1 (first_difference us pixels ws gs) (points_paired ws gs)

-- two points that differ
pub pair_differs : (us pixels : ℕ) (m : Measure) (w g : ℕ × Message) (ws gs : List (ℕ × Message)) (what : Difference) → difference_of us pixels w.1 g.1 ≡ Some what
    → points_say us pixels m (w ∷ ws) (g ∷ gs) ≡ Err (Differs w.0 g.0 what)
pair_differs us pixels m w g ws gs what differs =
    ap (λ d. measured_after m (option_or (option_map (Differs w.0 g.0) d) (first_difference us pixels ws gs)) ((w.1, g.1) ∷ points_paired ws gs)) differs

-- behind the last points
pub points_none : (us pixels : ℕ) (m : Measure) → points_say us pixels m [] [] ≡ Ok m
points_none us pixels m = ap (λ n. Ok n) (joined_none m)

-- there are no more points than messages
pub few_points : (each_move : Bool) (ms : List (ℕ × Message)) → length (points_in each_move ms) ≤ length ms
few_points each_move [] = omega arith
few_points each_move (m ∷ ms) = by_test (few_points each_move ms) (is_point each_move m.1.body)
  where
    by_test : length (points_in each_move ms) ≤ length ms → (b : Bool) → length (cond b (m ∷ points_in each_move ms) (points_in each_move ms)) ≤ length (m ∷ ms)
    by_test few true = omega (arith, few)
    by_test few false = omega (arith, few)

pub few_pairs : (ws gs : List (ℕ × Message)) → length (points_paired ws gs) ≤ length ws
few_pairs [] gs = omega arith
few_pairs (w ∷ ws) [] = omega arith
few_pairs (w ∷ ws) (g ∷ gs) = omega (arith, few_pairs ws gs)
