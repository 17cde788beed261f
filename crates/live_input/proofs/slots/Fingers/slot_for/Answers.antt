-- No finger with the touch id is down, and no slot is free.
use Rattle.std.proofs.Common.{w32, sym, ap, ap₂, ◌∙◌}
use Rattle.std.proofs.lemmas.Int.{to_z-of_z}
use Rattle.live_input.specs.Slots.{slot_for, slot_with}
use Rattle.live_input.proofs.slots.Fingers.slot_for.Goals as goal

pub returns-in-None-first_free-clause-value : goal.returns-in-None-first_free-clause-value
returns-in-None-first_free-clause-value c =
    sym (ap₂ slot_for
    (ap (λ i. slot_with i c.args.self.now) (sym (to_z-of_z w32 c.args.id c.ranges.id)) ∙ sym c.slot_with.ensures.value ∙ c.in-None.is)
    (sym c.first_free.ensures.value ∙ c.in-None-first_free.is))
