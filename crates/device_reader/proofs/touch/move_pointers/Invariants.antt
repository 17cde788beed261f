use Rattle.std.specs.Prelude.{◌≡◌, ◌<◌, ℕ, List, length, get_or}
use Rattle.device_reader.specs.SlotAccumulator.SlotContacts.{row_in}
use Rattle.device_reader.specs.declared.pointer_ids.assigned.Held.{Held}
use Rattle.device_reader.specs.PointerIds.Assigned.{unused}
use Rattle.device_reader.specs.PointerIds.Slots.{is_written, pointer_where}
use Rattle.device_reader.specs.TouchMapper.Gesture.{placed_all}
use Rattle.device_reader.proofs.Moves.{first_moved}
use Rattle.device_reader.proofs.touch.move_pointers.Given as goal

-- the pointers so far are where their slots say
abbrev pub invariant-loop-i : goal.invariant-loop-i
invariant-loop-i l = (hs : List Held) (slot : Held → ℕ) → l.fn.gestures.last ≡ placed_all l.fn.gestures.cook hs
    → ((j : ℕ) → j < length hs → get_or l.fn.fingers j 0 ≡ slot (get_or hs j unused))
    → l.gestures ≡ record {
      device = l.fn.gestures.device;
      cook = l.fn.gestures.cook;
      last = placed_all l.fn.gestures.cook
          (first_moved l.i (λ h. pointer_where (λ s. is_written l.fn.written s) (row_in l.fn.slots.rows) (slot h) h) hs);
    }
