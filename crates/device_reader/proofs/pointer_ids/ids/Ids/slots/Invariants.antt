use Rattle.std.specs.Prelude.{◌≡◌, ℕ, ◌<◌, length, get_or}
use Rattle.device_reader.specs.PointerIds.Assigned.{unused}
use Rattle.device_reader.specs.PointerIds.Slots.{slot_of}
use Rattle.device_reader.proofs.pointer_ids.ids.Ids.slots.Given as goal

-- the pointers so far have their slots
abbrev pub invariant-loop-i : goal.invariant-loop-i
invariant-loop-i l = record {
  many : length l.slots ≡ 16;
  done : (j : ℕ) → j < l.i → get_or l.slots j 0 ≡ slot_of (get_or l.held j unused).id l.self l.now;
}
