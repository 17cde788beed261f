-- Without events no pointer is down.
use Rattle.std.specs.Prelude.{[]}
use Rattle.std.proofs.Common.{sym, ◌∙◌, ap, subst, arith}
use Rattle.device_reader.specs.PointerIds.PointerIds.{assigned}
use Rattle.device_reader.specs.PointerIds.Slots.{SameFingers}
use Rattle.device_reader.proofs.PointerIds.SameSlots.{same_refl}
use Rattle.device_reader.specs.TouchMapper.GestureState.{GestureState}
use Rattle.device_reader.proofs.touch.Touch.reset.Goals as goal

pub returns : goal.returns
unfolding assigned
returns c = λ plan past h. record {
  slots_stand = c.reset.ensures.state;
  slots_are = c.reset.ensures.slots ∙ h.slots_are;
  packets_stand = record {
    ids_are = subst (λ ns. SameFingers c.reset-2.new.self ns) c.reset-2.ensures (same_refl c.reset-2.new.self);
    fingers_are = λ i lt. absurd (omega (arith, lt));
    gestures_are = c.reset-3.ensures ∙ ap (λ (g : GestureState). record { device = g.device; cook = g.cook; last = [] }) h.packets_stand.gestures_are;
    contacts_are = λ _. c.reset.ensures.contacts;
  };
}
