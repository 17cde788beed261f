-- What is still to be received.
use Rattle.std.specs.Prelude.{ℕ, ◌-◌, if◌then◌else◌, List, [], flat_map, replicate}
use Rattle.dispatch_calls.specs.declared.call.Call.{Call}
use Rattle.dispatch_calls.specs.declared.call.Call.TheVariants.{Receive}
use Rattle.dispatch_history.specs.History.{live, received}
use Rattle.dispatch_history.specs.Effect.{Effect, past_of}
use Rattle.dispatch_history.specs.Effects.{channels}
use Rattle.dispatch_history.specs.Delivery.{published}

-- the receives of what is still to be received of a channel
abbrev pub receives_of : List Effect → ℕ → List Call
receives_of es c = if live (past_of es) c then replicate (published es c - received (past_of es) c) (Receive c) else []

-- those of the channels 1 to n
abbrev pub receives_to : List Effect → ℕ → List Call
receives_to es n = flat_map (receives_of es) (channels n)
