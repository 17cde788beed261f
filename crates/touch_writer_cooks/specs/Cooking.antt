-- What cooking gets from the packets of a writer. Packets and events are newest first.
use Rattle.std.specs.Prelude.{◌≡◌, ℕ, ◌<◌, ◌≤◌, Bool, List, [], ◌∷◌, ◌++◌, map, reverse, replicate, None}
use Rattle.raw_events.specs.declared.event.RawEvent.{RawEvent}
use Rattle.device_reader.specs.declared.slot_accumulator.contacts.Contact.{Contact}
use Rattle.device_reader.specs.SlotAccumulator.SlotContacts.{contacts_at}
use Rattle.device_reader.specs.declared.pointer_ids.assigned.Held.{Held}
use Rattle.device_reader.specs.PointerIds.PointerIds.{named_after, assigned}
use Rattle.touch_writer.specs.declared.want.Want.{Want}
use Rattle.touch_writer.specs.Places.{IsRising, news, vacant}
use Rattle.touch_writer.specs.Choice.{IsChoice}
use Rattle.touch_writer.specs.State.{State, packet_of, after}
use Rattle.touch_writer.specs.Refusal.{refusal}

-- a packet: its moment, the contacts wanted after it, and which slots its new contacts come into
pub record Written : Type 0 where
  pub moment : ℕ
  pub want : List Want
  pub choice : List Bool

-- a writer that wrote nothing
abbrev pub first : ℕ → ℕ → State
first device slots = record { device = device; current = 0; places = replicate slots vacant; used = 0 }

-- the writer after its packets
abbrev pub writer_after : ℕ → ℕ → List Written → State
writer_after device slots [] = first device slots
writer_after device slots (w ∷ past) = after (writer_after device slots past) w.want w.choice

-- all events of the packets
abbrev pub events_of : ℕ → ℕ → List Written → List RawEvent
events_of device slots [] = []
events_of device slots (w ∷ past) =
    reverse (packet_of (writer_after device slots past) w.moment w.want w.choice) ++ events_of device slots past

-- the contacts that the slots hold at the end of each packet
abbrev pub contacts_of : ℕ → ℕ → List Written → List (List Contact)
contacts_of device slots [] = []
contacts_of device slots (w ∷ past) = contacts_at slots (events_of device slots (w ∷ past)) ∷ contacts_of device slots past

-- each id is that of a pointer
abbrev pub AreIds : List Want → Type 0
AreIds [] = Unit {0}
AreIds (w ∷ ws) = (w.id < 32) × AreIds ws

-- a packet that a writer does not refuse, by some choice of slots
pub record MayWrite (s : State) (w : Written) : Type 0 where
  pub rises : IsRising w.want
  pub ids : AreIds w.want
  pub taken : refusal s w.want ≡ None
  pub choice : IsChoice w.want s.places (news s.places w.want) w.choice

-- packets of which a writer refuses none
abbrev pub MayWriteAll : ℕ → ℕ → List Written → Type 0
MayWriteAll device slots [] = Unit {0}
MayWriteAll device slots (w ∷ past) = MayWrite (writer_after device slots past) w × MayWriteAll device slots past

-- the pointer that a wanted contact must become
abbrev pub pointer : Want → Held
pointer w = record { id = w.id; x = w.x; y = w.y }

-- From what a writer wrote so far, by whatever choices of slots, cooking assigns the ids and positions that were wanted.
abbrev pub CookingLaw : Type 0
CookingLaw = (device slots : ℕ) (w : Written) (past : List Written) → 1 ≤ slots → slots ≤ 16 → MayWriteAll device slots (w ∷ past)
    → assigned (named_after (contacts_of device slots (w ∷ past))) ≡ map pointer w.want
