-- The order in which steps are taken.
use Rattle.std.specs.Prelude.{nat_lt, if◌then◌else◌, List, [], ◌∷◌}
use Rattle.session_plan.specs.declared.plan.Step.{Step}

-- a step in front of the first of these that is not earlier
abbrev pub placed : Step → List Step → List Step
placed s [] = s ∷ []
placed s (t ∷ ts) = if nat_lt t.at s.at then t ∷ placed s ts else s ∷ t ∷ ts

-- by rising moment; where moments agree, in the order in which they stand
abbrev pub in_order : List Step → List Step
in_order [] = []
in_order (s ∷ ss) = placed s (in_order ss)
