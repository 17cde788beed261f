-- The service in the handle does it, with the touch id that was handed in.
use Rattle.std.proofs.Common.{w32, subst}
use Rattle.std.proofs.lemmas.Int.{to_z-of_z}
use Rattle.live_input.specs.Fingers.{cancelled}
use Rattle.plain_calls.specs.Fingers.{TouchReads}
use Rattle.inputflinger_c.proofs.Looking.{called_on}
use Rattle.inputflinger_c.proofs.live_fingers.inputflinger_proved_live_touch_cancel.Goals as goal

pub returns : goal.returns
returns c =
    let new = c.touch_cancel-status.new.live in let status = c.touch_cancel-status.result in
    called_on _ _ _ _ c.in-Some.service.value new _ c.in-Some.ensures.taken c.put.ensures
    (subst (λ s. TouchReads c.args.now_us c.args.device (λ f. cancelled f c.args.id) status s new) c.deref_mut.ensures.value
    (subst (λ id. TouchReads c.args.now_us c.args.device (λ f. cancelled f id) status c.deref_mut.result.now new) (to_z-of_z w32 c.args.id c.ranges.id) c.touch_cancel-status.ensures))
