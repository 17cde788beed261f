-- The plan for the slot is carried out.
use Rattle.std.proofs.Common.{w32, Err, refl, sym, ap, ◌∙◌, subst}
use Rattle.std.proofs.lemmas.Int.{to_z-of_z}
use Rattle.live_input.specs.Fingers.{TouchGoes, TouchGoesAtOnce}
use Rattle.live_input.specs.Slots.{fingers_of}
use Rattle.live_input.specs.State.{LiveState, latest}
use Rattle.live_input.proofs.Panels.{cancelled_is, cancelled_not}
use Rattle.live_input.proofs.live.Live.touch_cancel.Goals as goal

pub returns-in-Ok-clause-after : goal.returns-in-Ok-clause-after
returns-in-Ok-clause-after c = λ ds es plan past h st.
    let of_it = c.fingers_of-fingers.ensures ∙ ap (λ (s : LiveState). fingers_of s.fingers c.args.device) c.self.view_is in
    let plan_is =
    cancelled_is (fingers_of c.args.self.now.fingers c.args.device) c.fingers_of-fingers.result _ c.args.id c.in-Ok.slot c.cancel_strokes.result c.with_slot.result (to_z-of_z w32 c.args.id c.ranges.id) of_it
    (sym c.slot_of.ensures.value ∙ c.in-Ok.is) c.cancel_strokes.ensures c.with_slot.ensures in
    subst (λ p. TouchGoes ds (latest c.args.now c.args.self.now) es plan past c.args.device p c.touch.result c.args.self.now c.touch.new.self) (sym plan_is)
    (c.touch.ensures.after ds es plan past h st)

pub returns-in-Err-clause-after : goal.returns-in-Err-clause-after
returns-in-Err-clause-after c = λ ds es plan past h st.
    let of_it = c.fingers_of-fingers.ensures ∙ ap (λ (s : LiveState). fingers_of s.fingers c.args.device) c.self.view_is in
    let refused =
    cancelled_not (fingers_of c.args.self.now.fingers c.args.device) c.fingers_of-fingers.result _ c.args.id c.in-Err.refused
    (to_z-of_z w32 c.args.id c.ranges.id) of_it (sym c.slot_of.ensures.value ∙ c.in-Err.is) in
    subst (λ p. TouchGoes ds (latest c.args.now c.args.self.now) es plan past c.args.device p (Err c.in-Err.refused) c.args.self.now c.args.self.now) (sym refused)
    (refl, refl)

pub returns-in-Ok-clause-reserved : goal.returns-in-Ok-clause-reserved
returns-in-Ok-clause-reserved c = λ n ds es plan past h st idle.
    let of_it = c.fingers_of-fingers.ensures ∙ ap (λ (s : LiveState). fingers_of s.fingers c.args.device) c.self.view_is in
    let plan_is =
    cancelled_is (fingers_of c.args.self.now.fingers c.args.device) c.fingers_of-fingers.result _ c.args.id c.in-Ok.slot c.cancel_strokes.result c.with_slot.result (to_z-of_z w32 c.args.id c.ranges.id) of_it
    (sym c.slot_of.ensures.value ∙ c.in-Ok.is) c.cancel_strokes.ensures c.with_slot.ensures in
    subst (λ p. TouchGoesAtOnce n (latest c.args.now c.args.self.now) es plan past c.args.device p c.touch.result c.args.self.now c.touch.new.self) (sym plan_is)
    (c.touch.ensures.reserved n ds es plan past h st idle)

pub returns-in-Err-clause-reserved : goal.returns-in-Err-clause-reserved
returns-in-Err-clause-reserved c = λ n ds es plan past h st idle.
    let of_it = c.fingers_of-fingers.ensures ∙ ap (λ (s : LiveState). fingers_of s.fingers c.args.device) c.self.view_is in
    let refused =
    cancelled_not (fingers_of c.args.self.now.fingers c.args.device) c.fingers_of-fingers.result _ c.args.id c.in-Err.refused
    (to_z-of_z w32 c.args.id c.ranges.id) of_it (sym c.slot_of.ensures.value ∙ c.in-Err.is) in
    subst (λ p. TouchGoesAtOnce n (latest c.args.now c.args.self.now) es plan past c.args.device p (Err c.in-Err.refused) c.args.self.now c.args.self.now) (sym refused)
    refl
