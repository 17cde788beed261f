use Rattle.std.proofs.Common.{List}
use Rattle.dispatch_history.specs.Effect.{Effect}
use Rattle.dispatcher.specs.Dispatching.{IsAfter}
use Rattle.live_input.proofs.Noting.{NotedTo}
use Rattle.live_input.proofs.steps.Steps.note_all.Given as goal

-- the first channels are recorded
abbrev pub invariant-loop-place : goal.invariant-loop-place
invariant-loop-place l = (es : List Effect) → IsAfter es l.dispatcher → NotedTo l.place es l.initial.self l.self
