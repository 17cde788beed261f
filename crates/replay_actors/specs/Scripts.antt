-- The steps of a session, lane by lane.
use Rattle.std.specs.Prelude.{ℕ, ◌+◌, ◌==◌, if◌then◌else◌, List, [], ◌∷◌, slice_index_or, Vec}
use Rattle.std.specs.declared.alloc.Global.{Global}
use Rattle.dispatch_calls.specs.declared.call.Call.{Call}
use Rattle.session_plan.specs.declared.plan.Step.{Step}
use Rattle.replay_actors.specs.Session.{call_of}
use Rattle.replay_actors.specs.Plans.{scripted}

-- the calls of the lane with so many before it
abbrev pub calls_at : List (Vec Step Global) → ℕ → List Call
calls_at scripts k = slice_index_or (scripted scripts) k []

-- the call of a step, where it is of the lane with so many before it
abbrev pub call_for : Step → ℕ → List Call
call_for step k = if step.lane == k + 1 then call_of step.at step.act ∷ [] else []
