-- One channel more.
use Rattle.std.proofs.Common.{is_some, ap, ◌∙◌, arith}
use Rattle.dispatch_calls.specs.declared.call.Call.TheVariants.{Receive}
use Rattle.dispatch_history.specs.Reply.{reply_to}
use Rattle.dispatcher.specs.Access.{got}
use Rattle.window_snapshot.specs.Mask.{mask_has}
use Rattle.live_input.proofs.Awaiting.{awaiting_more}
use Rattle.live_input.proofs.messages.waiting.Goals as goal

pub loop-place-preserved : goal.loop-place-preserved
loop-place-preserved c = λ es s k.
    ap (λ m. mask_has m k) (c.with_waiting-mask.ensures es s)
    ∙ awaiting_more (λ k. is_some (got (reply_to es (Receive k)))) c.loop-place.mask c.loop-place.place (omega (arith, c.loop-place-test.true)) (c.loop-place.invariant es s) k
