-- How far points are from their partners.
use Rattle.std.specs.Prelude.{ℕ, ◌+◌, max, ◌-ℤ◌, unsigned_abs, List, [], ◌∷◌, length, map}
use Rattle.std.specs.Int.{abs_diff}
use Rattle.input_types.specs.declared.axis.Pixel.{Pixel}
use Rattle.input_types.specs.declared.message.Body.{Body}
use Rattle.input_types.specs.declared.message.Body.TheVariants.{Motion as MotionBody}
use Rattle.input_types.specs.declared.message.Message.{Message}
use Rattle.input_types.specs.declared.pointer.Pointer.{Pointer}
use Rattle.compare_text.specs.declared.measure.Measure.{Measure}

-- the greatest of some numbers, and 0 of none
abbrev pub greatest : List ℕ → ℕ
greatest [] = 0
greatest (n ∷ ns) = max n (greatest ns)

-- the distance of two places, on the axis on which it is greater
abbrev pub distance : Pixel → Pixel → ℕ
distance a b = max (unsigned_abs (a.x -ℤ b.x)) (unsigned_abs (a.y -ℤ b.y))

-- the distance of each pointer from the one at its place in the other list
abbrev pub distances : List Pointer → List Pointer → List ℕ
distances (p ∷ ps) (q ∷ qs) = distance p.at q.at ∷ distances ps qs
distances _ _ = []

-- those of the pointers of two points
abbrev pub body_distances : Body → Body → List ℕ
body_distances (MotionBody a) (MotionBody b) = distances a.pointers b.pointers
body_distances _ _ = []

-- an expected point and an actual one
abbrev pub PointPair : Type 0
PointPair = Message × Message

-- how many pairs of points there are, the greatest distance of their moments, and the greatest of their places
abbrev pub measure : List PointPair → Measure
measure ps = record {
  points = length ps;
  us = greatest (map (λ p. abs_diff p.0.moment p.1.moment) ps);
  pixels = greatest (map (λ p. greatest (body_distances p.0.body p.1.body)) ps);
}

-- a measure with one more pair
abbrev pub with_pair : Measure → Message → Message → Measure
with_pair m a b = record {
  points = m.points + 1;
  us = max m.us (abs_diff a.moment b.moment);
  pixels = max m.pixels (greatest (body_distances a.body b.body));
}

-- the measure of some pairs and others
abbrev pub joined : Measure → Measure → Measure
joined m n = record { points = m.points + n.points; us = max m.us n.us; pixels = max m.pixels n.pixels }
