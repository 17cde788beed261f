-- The steps that are left of each lane.
use Rattle.std.specs.Prelude.{◌≡◌, ℕ, ◌+◌, ◌<◌, List, [], ◌∷◌, length, drop, map, slice_get, slice_index_or, Option, Some, None}
use Rattle.dispatch_calls.specs.declared.call.Call.{Call}
use Rattle.dispatch_history.specs.Plan.{ScriptStep}
use Rattle.schedule.specs.declared.plan.Step.{Step}
use Rattle.schedule.specs.Planned.{step_of}
use Rattle.dispatch_history.specs.Given.{calls_of_lane}

-- the index from which the next step of a lane is searched
abbrev pub search_from : List ℕ → ℕ → ℕ
search_from places l = slice_index_or places l 0

-- What is left of some steps has the same calls of each lane as the steps from the lane's place on.
abbrev pub IsLeft : List ScriptStep → List ScriptStep → List ℕ → Type 0
IsLeft steps left places = (l : ℕ) → l < 256 → calls_of_lane l left ≡ calls_of_lane l (drop (search_from places l) steps)

-- the calls of the steps of a lane from a place on
abbrev pub calls_from : List Step → ℕ → ℕ → List Call
calls_from steps l at = calls_of_lane l (drop at (map step_of steps))

-- The index of the next step of a lane from an index on, after which the other steps of the lane follow; None if it
-- has none there.
abbrev pub Finds : List Step → ℕ → ℕ → Option ℕ → Type 0
Finds steps l from None = calls_from steps l from ≡ []
Finds steps l from (Some at) =
    (at < length steps) × ((x : Step) → slice_get steps at ≡ Some x → calls_from steps l from ≡ x.call ∷ calls_from steps l (at + 1))
