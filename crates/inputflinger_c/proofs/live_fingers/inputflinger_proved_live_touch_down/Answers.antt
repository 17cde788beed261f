-- The service in the handle does it, with the numbers that were handed in.
use Rattle.std.proofs.Common.{w32, subst}
use Rattle.std.proofs.lemmas.Int.{to_z-of_z}
use Rattle.live_input.specs.Fingers.{down}
use Rattle.plain_calls.specs.Fingers.{TouchReads}
use Rattle.plain_calls.proofs.Touching.{planned_with}
use Rattle.inputflinger_c.proofs.Looking.{called_on}
use Rattle.inputflinger_c.proofs.live_fingers.inputflinger_proved_live_touch_down.Goals as goal

pub returns : goal.returns
returns c =
    let new = c.touch_down-status.new.live in let status = c.touch_down-status.result in
    called_on _ _ _ _ c.in-Some.service.value new _ c.in-Some.ensures.taken c.put.ensures
    (subst (λ s. TouchReads c.args.now_us c.args.device (λ f. down f c.args.id c.args.x c.args.y) status s new) c.deref_mut.ensures.value
    (planned_with (λ p. TouchReads c.args.now_us c.args.device p status c.deref_mut.result.now new) down _ c.args.id _ c.args.x _ c.args.y
    (to_z-of_z w32 c.args.id c.ranges.id) (to_z-of_z w32 c.args.x c.ranges.x) (to_z-of_z w32 c.args.y c.ranges.y) c.touch_down-status.ensures))
