-- What is counted of a touch device. Events stand with the newest first.
use Rattle.std.specs.Prelude.{◌≡◌, ℕ, Bool, not, ◌&&◌, ◌||◌, nat_eq, ℤ, pos, int_le, int_lt, List, [], ◌∷◌, length, map, filter, Option, Some, None, if◌then◌else◌}
use Rattle.std.specs.List.{list_any}
use Rattle.input_types.specs.declared.axis.Axis.{Axis}
use Rattle.raw_events.specs.declared.event.RawEvent.{RawEvent}
use Rattle.raw_events.specs.Packets.{is_report, is_void}
use Rattle.device_reader.specs.declared.slot_accumulator.contacts.Contact.{Contact}
use Rattle.device_reader.specs.SlotAccumulator.SlotContacts.{contacts_at, SlotsStandFor}
use Rattle.device_reader.specs.SlotAccumulator.SlotValues.{is_abs}
use Rattle.device_reader.specs.declared.pointer_ids.assigned.Held.{Held}
use Rattle.device_reader.specs.PointerIds.PointerIds.{named_after, assigned, fingers}
use Rattle.device_reader.specs.Cooked.{TouchPlan}
use Rattle.device_reader.specs.Packets.{since_drop, packets}
use Rattle.recording_counts.specs.Counted.{counted, greatest}
use Rattle.recording_counts.specs.Events.{read_events, event_counts, is_touch_used}
use Rattle.recording_counts.specs.declared.touch.Ranges.{Ranges}
use Rattle.recording_counts.specs.declared.touch.Touching.{Touching}
use Rattle.recording_counts.specs.declared.touch.TouchCounts.{TouchCounts}
use Rattle.recording_counts.specs.declared.touch.TouchTally.{TouchTally}

-- the contacts at the end of the packet that an event ends, where it ends one and is not void
abbrev pub packet_at : ℕ → List RawEvent → RawEvent → Option (List Contact)
packet_at slots past e =
    if is_void past then None
    else if is_report e then Some (contacts_at slots (e ∷ since_drop past))
    else None

-- one packet more, where there is one
abbrev pub with_packet : Option (List Contact) → List (List Contact) → List (List Contact)
with_packet None ends = ends
with_packet (Some cs) ends = cs ∷ ends

-- the contacts at the end of each packet, the newest packet first
abbrev pub packet_ends : ℕ → List RawEvent → List (List Contact)
packet_ends slots [] = []
packet_ends slots (e ∷ past) = with_packet (packet_at slots past e) (packet_ends slots past)

-- the contacts that are palms
abbrev pub palms : List Contact → List Contact
palms cs = filter (λ c. c.palm) cs

-- a position that is outside its axis
abbrev pub is_beyond : Axis → ℤ → Bool
is_beyond axis v = int_lt v axis.min || int_lt axis.max v

-- a position event whose value is outside its axis
abbrev pub is_outside : Ranges → RawEvent → Bool
is_outside r e = (is_abs 53 e && is_beyond r.x e.value) || (is_abs 54 e && is_beyond r.y e.value)

-- an ABS_MT_SLOT whose value is none of the device's slots
abbrev pub is_astray : Ranges → RawEvent → Bool
is_astray r e = is_abs 47 e && not (int_le (pos 0) e.value && int_lt e.value (pos r.slots))

-- a position of a device that speaks no multi-touch protocol: ABS_X or ABS_Y
abbrev pub is_single : RawEvent → Bool
is_single e = is_abs 0 e || is_abs 1 e

-- a position of a contact
abbrev pub is_position : RawEvent → Bool
is_position e = is_abs 53 e || is_abs 54 e

-- a SYN_MT_REPORT, which ends a contact in protocol A
abbrev pub ends_contact : RawEvent → Bool
ends_contact e = nat_eq e.kind 0 && nat_eq e.code 2

-- What a touch device counts: its packets, the most fingers and the most palms at the end of one, the positions outside
-- their axis and the slots that it does not have, none of them void; and whether there is an event of a single touch, a
-- position, and an event of protocol A.
abbrev pub touch_counts : Ranges → List RawEvent → TouchCounts
touch_counts r es = record {
  packets = counted (packet_ends r.slots es);
  fingers = greatest (map (λ cs. length (fingers cs)) (packet_ends r.slots es));
  palms = greatest (map (λ cs. length (palms cs)) (packet_ends r.slots es));
  clamped = counted (filter (is_outside r) (read_events es));
  strayed = counted (filter (is_astray r) (read_events es));
  single = list_any is_single es;
  placed = list_any is_position es;
  protocol_a = list_any ends_contact es;
}

-- the pointers that the reader of a device with so many slots holds after its events
abbrev pub held_at : ℕ → List RawEvent → List Held
held_at slots es = assigned (named_after (packets slots (since_drop es)))

-- what is known of the contacts of a device with so many slots is what these events leave
pub record TouchesAfter (slots : ℕ) (past : List RawEvent) (t : Touching) : Type 0 where
  pub void_is : t.void ≡ is_void past
  pub slots_stand : SlotsStandFor (since_drop past) t.slots
  pub slots_are : t.slots.slots ≡ slots
  pub ids_are : t.ids ≡ named_after (packets slots (since_drop past))
  pub held_are : t.held.pointers ≡ held_at slots past

-- the ranges of a device
abbrev pub ranges_of : TouchPlan → Ranges
ranges_of plan = record { x = plan.cook.x; y = plan.cook.y; slots = plan.slots }

-- the counts are those of these events of the device
pub record TouchTallyStandsFor (plan : TouchPlan) (past : List RawEvent) (t : TouchTally) : Type 0 where
  pub ranges_are : t.ranges ≡ ranges_of plan
  pub touching_is : TouchesAfter plan.slots past t.touching
  pub events_are : t.events ≡ event_counts is_touch_used past
  pub counts_are : t.counts ≡ touch_counts (ranges_of plan) past
