-- Without events no pointer is down.
use Rattle.std.specs.Prelude.{false}
use Rattle.std.proofs.Common.{sym, ◌∙◌, ap, subst, arith}
use Rattle.device_reader.specs.declared.pointer_ids.named.Named.{Named}
use Rattle.device_reader.specs.PointerIds.PointerIds.{assigned}
use Rattle.device_reader.specs.PointerIds.Slots.{SameFingers}
use Rattle.device_reader.proofs.PointerIds.SameSlots.{same_refl}
use Rattle.device_reader.proofs.touch.Touch.new.Goals as goal

pub returns : goal.returns
unfolding assigned
returns c = record {
  slots_stand = c.new.ensures.state;
  slots_are = c.new.ensures.slots;
  packets_stand = record {
    ids_are = subst (λ ns. SameFingers c.new-2.result ns) c.new-2.ensures (same_refl c.new-2.result);
    fingers_are = λ i lt. absurd (omega (arith, lt));
    gestures_are = c.new-3.ensures;
    contacts_are = λ _. c.new.ensures.contacts;
  };
}
