-- What contracts see of a writer.
use Rattle.std.specs.Prelude.{◌≡◌, ℕ, ◌+◌, ◌<◌, ◌≤◌, ◌^◌, Bool, false, List, [], ◌∷◌, Option, Some, None, length, take}
use Rattle.raw_events.specs.declared.event.RawEvent.{RawEvent}
use Rattle.touch_writer.specs.declared.place.Place.{Place}
use Rattle.touch_writer.specs.declared.place.Touch.{Touch}
use Rattle.touch_writer.specs.declared.want.Want.{Want}
use Rattle.touch_writer.specs.Places.{is_held, news}
use Rattle.touch_writer.specs.Packet.{packet, last_slot}
use Rattle.touch_writer.specs.Choice.{IsChoice, IsNotAfter, placed, slots_of}

-- the device, the current slot, what each slot of the device holds, and how many tracking ids were used
pub record State : Type 0 where
  pub device : ℕ
  pub current : ℕ
  pub places : List Place
  pub used : ℕ

-- no slot of a list holds the contact that is held here
abbrev pub IsHeldOnce : Option Touch → List Place → Type 0
IsHeldOnce None ps = Unit {0}
IsHeldOnce (Some t) ps = is_held t.id ps ≡ false

-- no two slots hold contacts with one id
abbrev pub HoldOnce : List Place → Type 0
HoldOnce [] = Unit {0}
HoldOnce (p ∷ ps) = IsHeldOnce p.holds ps × HoldOnce ps

-- a writer of 1 to 16 slots
pub record IsWriter (rows : List Place) (slots current used : ℕ) : Type 0 where
  pub some : 1 ≤ slots
  pub most : slots ≤ 16
  pub whole : length rows ≡ 16
  pub inside : current < slots
  pub counted : used < 2 ^ 31
  pub once : HoldOnce (take slots rows)

-- what the slots hold after a choice
abbrev pub places_after : State → List Want → List Bool → List Place
places_after s want choice = placed want s.places choice (news s.places want) s.used

-- the packet of a choice
abbrev pub packet_of : State → ℕ → List Want → List Bool → List RawEvent
packet_of s moment want choice = packet s.device moment s.current s.places (places_after s want choice)

-- the writer after the packet of a choice
abbrev pub after : State → List Want → List Bool → State
after s want choice = record {
  device = s.device;
  current = last_slot s.current s.current 0 s.places (places_after s want choice);
  places = places_after s want choice;
  used = s.used + length (news s.places want);
}

-- No choice has a packet with fewer events, and none with as few has a lower list of slots.
pub record IsBestChoice (s : State) (moment : ℕ) (want : List Want) (choice : List Bool) : Type 0 where
  pub is : IsChoice want s.places (news s.places want) choice
  pub fewest : (other : List Bool) → IsChoice want s.places (news s.places want) other
      → length (packet_of s moment want choice) ≤ length (packet_of s moment want other)
  pub least : (other : List Bool) → IsChoice want s.places (news s.places want) other
      → length (packet_of s moment want other) ≡ length (packet_of s moment want choice) → IsNotAfter (slots_of 0 choice) (slots_of 0 other)
