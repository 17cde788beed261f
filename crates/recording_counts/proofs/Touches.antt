-- The contacts of a device, one event more.
use Rattle.std.specs.Prelude.{◌≡◌, ℕ, true, false, List, [], ◌∷◌}
use Rattle.std.proofs.Common.{sym, ◌∙◌}
use Rattle.raw_events.specs.declared.event.RawEvent.{RawEvent}
use Rattle.raw_events.specs.Packets.{is_drop, is_void}
use Rattle.device_reader.specs.SlotAccumulator.SlotContacts.{SlotsStandFor}
use Rattle.device_reader.specs.PointerIds.PointerIds.{named_after, assigned}
use Rattle.recording_counts.specs.declared.touch.Touching.{Touching}
use Rattle.recording_counts.specs.Touch.{TouchesAfter}

-- a drop, behind which all that comes is void
pub dropped : (slots : ℕ) (past : List RawEvent) (e : RawEvent) (old new : Touching) → TouchesAfter slots past old
    → old.void ≡ false → is_drop e ≡ true → new.void ≡ true → SlotsStandFor [] new.slots → new.slots.slots ≡ old.slots.slots
    → new.ids ≡ named_after [] → new.held.pointers ≡ [] → TouchesAfter slots (e ∷ past) new
unfolding assigned
dropped slots past e old new h f d v s n i p =
    let here : is_void past ≡ false = sym h.void_is ∙ f in
    record {
      void_is = rw (here, d) v;
      slots_stand = rw (here, d) s;
      slots_are = n ∙ h.slots_are;
      ids_are = rw (here, d) i;
      held_are = rw (here, d) p;
    }
