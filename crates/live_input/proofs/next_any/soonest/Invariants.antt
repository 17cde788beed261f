use Rattle.std.proofs.Common.{◌≡◌, List}
use Rattle.dispatch_history.specs.Effect.{Effect}
use Rattle.live_input.specs.Order.{IsReady, first_of}
use Rattle.live_input.proofs.next_any.soonest.Given as goal

-- the one of the first channels whose message comes first
abbrev pub invariant-loop-index : goal.invariant-loop-index
invariant-loop-index l = (es : List Effect) → IsReady es l.dispatcher l.steps → l.first ≡ first_of es l.index
