-- The packets of a device's events, and the key events among them. Events stand with the newest first.
use Rattle.std.specs.Prelude.{ℕ, Bool, nat_eq, List, [], ◌∷◌, if◌then◌else◌}
use Rattle.raw_events.specs.declared.event.RawEvent.{RawEvent}
use Rattle.device_reader.specs.declared.slot_accumulator.contacts.Contact.{Contact}
use Rattle.raw_events.specs.Packets.{is_report, is_drop, is_void}
use Rattle.device_reader.specs.SlotAccumulator.SlotContacts.{contacts_at}
use Rattle.key_mapper.specs.Key.{KeyEvent}

-- the events that are not void, since the last drop
abbrev pub since_drop : List RawEvent → List RawEvent
since_drop [] = []
since_drop (e ∷ past) = if is_void past then since_drop past else (if is_drop e then [] else e ∷ since_drop past)

-- the contacts of each packet of some events without a drop, the newest packet first
abbrev pub packets : ℕ → List RawEvent → List (List Contact)
packets slots [] = []
packets slots (e ∷ past) = if is_report e then contacts_at slots (e ∷ past) ∷ packets slots past else packets slots past

-- an EV_KEY
abbrev pub is_key : RawEvent → Bool
is_key e = nat_eq e.kind 1

-- the code of an EV_KEY is its scan code
abbrev pub key_event : RawEvent → KeyEvent
key_event e = record { scan = e.code; value = e.value }

-- the key events of some events
abbrev pub key_events : List RawEvent → List KeyEvent
key_events [] = []
key_events (e ∷ past) = if is_key e then key_event e ∷ key_events past else key_events past
