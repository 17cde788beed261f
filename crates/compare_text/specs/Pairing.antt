-- Pairing in progress: which sections are paired already, and what the pairs so far measure.
use Rattle.std.specs.Prelude.{ℕ, ◌+◌, ◌&&◌, nat_eq, nat_le, if◌then◌else◌, slice_index, List, [], ◌∷◌, Option, Some, None, Result, Ok, Err}
use Rattle.input_types.specs.declared.message.Message.{Message}
use Rattle.compare_text.specs.declared.error.CompareError.{CompareError}
use Rattle.compare_text.specs.declared.error.CompareError.TheVariants.{NewSection}
use Rattle.compare_text.specs.declared.measure.Measure.{Measure}
use Rattle.compare_text.specs.Compared.{first_difference, points_paired}
use Rattle.compare_text.specs.Measured.{PointPair, joined, measure}
use Rattle.compare_text.specs.Points.{Section}

-- the sections from index `i` on that are not paired yet, where `from` has for each channel an index before which its
-- sections are paired
abbrev pub left_from : ℕ → List ℕ → List Section → List Section
left_from i from [] = []
left_from i from (s ∷ ss) = if nat_le (slice_index from s.id) i then s ∷ left_from (i + 1) from ss else left_from (i + 1) from ss

-- the first section of a channel at or after an index, of sections from index `i` on, with its own index
abbrev pub first_at : ℕ → ℕ → ℕ → List Section → Option (ℕ × Section)
first_at from id i [] = None
first_at from id i (s ∷ ss) = if nat_le from i && nat_eq s.id id then Some (i, s) else first_at from id (i + 1) ss

-- the first of actual sections without a partner
abbrev pub first_new : List Section → Option CompareError
first_new [] = None
first_new (g ∷ gs) = Some (NewSection g.line)

-- the measure of some pairs and of these, unless there is a fault
abbrev pub measured_after : Measure → Option CompareError → List PointPair → Result Measure CompareError
measured_after m None ps = Ok (joined m (measure ps))
measured_after m (Some fault) ps = Err fault

-- what the points of two sections say, after other pairs
abbrev pub points_say : (us pixels : ℕ) → Measure → (want got : List (ℕ × Message)) → Result Measure CompareError
points_say us pixels m want got = measured_after m (first_difference us pixels want got) (points_paired want got)
