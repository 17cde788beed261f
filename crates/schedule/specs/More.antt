-- What is kept of a run, even if memory runs out on the way.
use Rattle.std.specs.Prelude.{List}
use Rattle.dispatch_calls.specs.declared.call.Call.{Call}
use Rattle.dispatch_history.specs.Effect.{Effect}
use Rattle.dispatch_history.specs.Ordered.{extend}
use Rattle.dispatcher.specs.Dispatching.{Dispatching, IsAfter}

-- The dispatcher is as after these effects and those of some more calls: nothing that was done is lost.
pub record ComesTo (es : List Effect) (d : Dispatching) : Type 0 where
  pub calls : List Call
  pub stands : IsAfter (extend d.displays es calls) d
