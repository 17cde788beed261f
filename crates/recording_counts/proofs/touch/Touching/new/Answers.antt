-- Without events no contact is there.
use Rattle.std.proofs.Common.{refl, ap}
use Rattle.device_reader.specs.PointerIds.PointerIds.{assigned}
use Rattle.recording_counts.proofs.touch.Touching.new.Goals as goal

pub returns : goal.returns
unfolding assigned
returns c = record {
  void_is = refl;
  slots_stand = c.new.ensures.state;
  slots_are = c.new.ensures.slots;
  ids_are = c.new-2.ensures;
  held_are = ap (λ a. a.pointers) c.empty.ensures;
}
