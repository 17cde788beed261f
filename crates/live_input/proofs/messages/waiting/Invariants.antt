use Rattle.std.proofs.Common.{◌≡◌, ℕ, ◌&&◌, List, is_some}
use Rattle.dispatch_calls.specs.declared.call.Call.TheVariants.{Receive}
use Rattle.dispatch_history.specs.Effect.{Effect}
use Rattle.dispatch_history.specs.Reply.{reply_to}
use Rattle.dispatcher.specs.Access.{got}
use Rattle.dispatcher.specs.Dispatching.{StandsFor}
use Rattle.window_snapshot.specs.Mask.{mask_has}
use Rattle.live_input.proofs.Awaiting.{is_within}
use Rattle.live_input.proofs.messages.waiting.Given as goal

-- the mask has those of the first channels
abbrev pub invariant-loop-place : goal.invariant-loop-place
invariant-loop-place l =
    (es : List Effect) → StandsFor es l.dispatcher → (c : ℕ) → mask_has l.mask c ≡ (is_within l.place c && is_some (got (reply_to es (Receive c))))
