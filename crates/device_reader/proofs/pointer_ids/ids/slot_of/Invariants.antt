use Rattle.std.specs.Prelude.{◌≡◌, drop}
use Rattle.device_reader.specs.PointerIds.Slots.{slot_of}
use Rattle.device_reader.proofs.pointer_ids.ids.slot_of.Given as goal

-- the fingers so far have other ids
abbrev pub invariant-loop-i : goal.invariant-loop-i
invariant-loop-i l = slot_of l.id (drop l.i l.named) (drop l.i l.now) ≡ slot_of l.id l.named l.now
