-- The devices of a session with their numbers.
use Rattle.std.specs.Prelude.{ℕ, ◌+◌, List, ◌∷◌, []}
use Rattle.raw_events.specs.Line.{Known}
use Rattle.session_plan.specs.Plan.{DeviceData, PlanData}

-- those of devices the first of which has number `k`
abbrev pub numbered_from : ℕ → List DeviceData → Known
numbered_from k [] = []
numbered_from k (d ∷ ds) = (d.path, k) ∷ numbered_from (k + 1) ds

-- the paths of the devices of a session, numbered from 1
abbrev pub devices_of : PlanData → Known
devices_of plan = numbered_from 1 plan.devices
