-- The touch id, x and y are each a 32-bit number, so the finger has them unchanged.
use Rattle.std.proofs.Common.{◌∙◌, w32, sym}
use Rattle.std.proofs.lemmas.Int.{to_z-of_z}
use Rattle.live_input.specs.Fingers.{moved}
use Rattle.plain_calls.specs.Fingers.{Touched}
use Rattle.plain_calls.proofs.Reading.{read_as}
use Rattle.plain_calls.proofs.Touching.{planned_with}
use Rattle.plain_calls.proofs.fingers.touch_motion.Goals as goal

pub returns : goal.returns
returns c =
    let now = c.in-Some.now in let d = c.in-Some-device_of.device in let old = c.args.live.now in let new = c.touch_motion.new.self in
    let e = c.touch_motion.ensures in
    let touched : Touched now d (λ f. moved f c.args.id c.args.x c.args.y) old new c.touch_motion.result =
    planned_with (λ p. Touched now d p old new c.touch_motion.result) moved _ c.args.id _ c.args.x _ c.args.y
    (to_z-of_z w32 c.args.id c.ranges.id) (to_z-of_z w32 c.args.x c.ranges.x) (to_z-of_z w32 c.args.y c.ranges.y)
    (record { none = e.none; after = e.after; reserved = e.reserved; others = e.others; seats = e.seats; named = e.named; reports = e.reports }) in
    read_as _ now _ _ _ (sym c.moment_of.ensures ∙ c.in-Some.is)
    (read_as _ d _ _ _ (sym c.device_of.ensures ∙ c.in-Some-device_of.is) (c.touch_motion.result, (c.finger_status.ensures, touched)))
