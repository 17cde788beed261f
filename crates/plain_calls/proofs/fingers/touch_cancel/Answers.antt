-- The touch id is a 32-bit number, so the finger has it unchanged.
use Rattle.std.proofs.Common.{◌∙◌, w32, sym, subst}
use Rattle.std.proofs.lemmas.Int.{to_z-of_z}
use Rattle.live_input.specs.Fingers.{cancelled}
use Rattle.plain_calls.specs.Fingers.{Touched}
use Rattle.plain_calls.proofs.Reading.{read_as}
use Rattle.plain_calls.proofs.fingers.touch_cancel.Goals as goal

pub returns : goal.returns
returns c =
    let now = c.in-Some.now in let d = c.in-Some-device_of.device in let old = c.args.live.now in let new = c.touch_cancel.new.self in
    let e = c.touch_cancel.ensures in
    let touched : Touched now d (λ f. cancelled f c.args.id) old new c.touch_cancel.result =
    subst (λ id. Touched now d (λ f. cancelled f id) old new c.touch_cancel.result) (to_z-of_z w32 c.args.id c.ranges.id)
    (record { none = e.none; after = e.after; reserved = e.reserved; others = e.others; seats = e.seats; named = e.named; reports = e.reports }) in
    read_as _ now _ _ _ (sym c.moment_of.ensures ∙ c.in-Some.is)
    (read_as _ d _ _ _ (sym c.device_of.ensures ∙ c.in-Some-device_of.is) (c.touch_cancel.result, (c.finger_status.ensures, touched)))
