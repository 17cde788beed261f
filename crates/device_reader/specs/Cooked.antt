-- What the dispatcher is given of a device. Events and args stand with the newest first.
use Rattle.std.specs.Prelude.{◌≡◌, ◌<◌, ℕ, Bool, false, length, get_or, map, List, [], ◌∷◌, ◌++◌, reverse, Option, Some, None, if◌then◌else◌}
use Rattle.raw_events.specs.declared.event.RawEvent.{RawEvent}
use Rattle.input_types.specs.declared.pointer.Pointer.{Pointer}
use Rattle.input_types.specs.declared.key.KeyArgs.{KeyArgs}
use Rattle.input_types.specs.declared.message.Args.{Args}
use Rattle.input_types.specs.declared.message.Args.TheVariants.{Key, Reset}
use Rattle.raw_events.specs.Packets.{is_report, is_drop, is_void}
use Rattle.device_reader.specs.declared.slot_accumulator.contacts.Contact.{Contact}
use Rattle.device_reader.specs.SlotAccumulator.SlotContacts.{contacts_at, contacts_in, row_in, SlotsStandFor}
use Rattle.device_reader.specs.PointerIds.Assigned.{unused}
use Rattle.device_reader.specs.PointerIds.Slots.{slot_of, is_written, contact_where, SameFingers, last_packet}
use Rattle.device_reader.specs.PointerIds.PointerIds.{named_after, is_cancelled, assigned}
use Rattle.device_reader.specs.TouchMapper.Cooking.{Cooking}
use Rattle.device_reader.specs.TouchMapper.Gesture.{placed_all, gesture, as_args}
use Rattle.key_layout.specs.Layout.{Codes}
use Rattle.key_mapper.specs.Key.{key_args_of}
use Rattle.key_mapper.specs.Held.{Held, KeysStandFor}
use Rattle.device_reader.specs.declared.touch.Touch.{Touch}
use Rattle.device_reader.specs.declared.reader.Kind.{Kind}
use Rattle.device_reader.specs.declared.reader.Kind.TheVariants as kinds
use Rattle.device_reader.specs.Reading.{Reading}
use Rattle.device_reader.specs.Packets.{since_drop, packets, is_key, key_event, key_events}

-- a touch device: its number, how many slots it has, and how its positions become pixels
pub record TouchPlan : Type 0 where
  pub device : ℕ
  pub slots : ℕ
  pub cook : Cooking

-- a device with keys: its number, and the key codes of its scan codes
pub record KeysPlan : Type 0 where
  pub device : ℕ
  pub layout : Codes

-- what has to be known of a device to read it
pub data DevicePlan : Type 0 where
  Touches : TouchPlan → DevicePlan
  Keys : KeysPlan → DevicePlan

-- a device's number
abbrev pub number_of : DevicePlan → ℕ
number_of (Touches plan) = plan.device
number_of (Keys plan) = plan.device

-- the pointers that are down after the last packet of some events without a drop
abbrev pub pointers_at : TouchPlan → List RawEvent → List Pointer
pointers_at plan past = placed_all plan.cook (assigned (named_after (packets plan.slots past)))

-- the ids of the packet before that are cancelled in the packet that an event ends: those of fingers that became palms
abbrev pub cancelled_at : TouchPlan → List RawEvent → RawEvent → ℕ → Bool
cancelled_at plan past e i = is_cancelled (named_after (packets plan.slots past)) (contacts_at plan.slots (e ∷ past)) i

-- what an event of a touch device adds after events without a drop: the motions from the packet before to the one that
-- it ends, in their order
abbrev pub touch_args : TouchPlan → List RawEvent → RawEvent → List Args
touch_args plan past e =
    if is_report e then as_args (gesture plan.device (λ i. cancelled_at plan past e i) (pointers_at plan past) (pointers_at plan (e ∷ past))) else []

-- the args of a key, where one moved
abbrev pub key_list : Option KeyArgs → List Args
key_list None = []
key_list (Some k) = Key k ∷ []

-- what an event of a keys device adds after events without a drop: the key that it moves, at once and not when its
-- packet ends
abbrev pub key_args : KeysPlan → List RawEvent → RawEvent → List Args
key_args plan past e = if is_key e then key_list (key_args_of plan.device plan.layout (key_events past) (key_event e)) else []

-- what an event of a device adds after events without a drop
abbrev pub kind_args : DevicePlan → List RawEvent → RawEvent → List Args
kind_args (Touches plan) past e = touch_args plan past e
kind_args (Keys plan) past e = key_args plan past e

-- What an event adds: nothing where it is void, a Reset where it is a drop, and else what it gives after the events
-- since the last drop.
abbrev pub args_of : DevicePlan → List RawEvent → RawEvent → List Args
args_of plan past e =
    if is_void past then []
    else if is_drop e then Reset (number_of plan) ∷ []
    else kind_args plan (since_drop past) e

-- all that a device gave, the newest first
abbrev pub device_args : DevicePlan → List RawEvent → List Args
device_args plan [] = []
device_args plan (e ∷ past) = reverse (args_of plan past e) ++ device_args plan past

-- What is known of a touch device stands for its packets, the newest first: the fingers with their ids; the slot of each
-- pointer; the pointers at their pixels; and, where no tracking id was written since, the contacts now are those of the
-- last packet, each where its slot says if that was written since.
pub record PacketsStandFor (plan : TouchPlan) (past : List (List Contact)) (t : Touch) : Type 0 where
  pub ids_are : SameFingers t.ids (named_after past)
  pub fingers_are : (i : ℕ) → i < length (assigned (named_after past))
      → get_or t.fingers i 0 ≡ slot_of (get_or (assigned (named_after past)) i unused).id (named_after past) (last_packet past)
  pub gestures_are : t.gestures ≡ record { device = plan.device; cook = plan.cook; last = placed_all plan.cook (assigned (named_after past)) }
  pub contacts_are : t.anew ≡ false
      → contacts_in t.slots ≡ map (λ c. contact_where (λ s. is_written t.written s) (row_in t.slots.rows) c) (last_packet past)

-- it stands for some events without a drop
pub record TouchStandsFor (plan : TouchPlan) (past : List RawEvent) (t : Touch) : Type 0 where
  pub slots_stand : SlotsStandFor past t.slots
  pub slots_are : t.slots.slots ≡ plan.slots
  pub packets_stand : PacketsStandFor plan (packets plan.slots past) t

-- only its slots have taken the event that ends a packet
pub record TouchEnds (plan : TouchPlan) (past : List RawEvent) (e : RawEvent) (t : Touch) : Type 0 where
  pub slots_stand : SlotsStandFor (e ∷ past) t.slots
  pub slots_are : t.slots.slots ≡ plan.slots
  pub ids_are : SameFingers t.ids (named_after (packets plan.slots past))
  pub gestures_are : t.gestures ≡ record { device = plan.device; cook = plan.cook; last = pointers_at plan past }

-- what is known of a device with keys does
pub record HeldStandsFor (plan : KeysPlan) (past : List RawEvent) (k : Held) : Type 0 where
  pub device_is : k.device ≡ plan.device
  pub layout_is : k.layout ≡ plan.layout
  pub keys_stand : KeysStandFor (key_events past) k

-- what is known of a device of some kind does
abbrev pub KindStandsFor : DevicePlan → List RawEvent → Kind → Type 0
KindStandsFor (Touches plan) past (kinds.Touch t) = TouchStandsFor plan past t
KindStandsFor (Keys plan) past (kinds.Keys k) = HeldStandsFor plan past k
KindStandsFor (Touches plan) past (kinds.Keys k) = ⊥
KindStandsFor (Keys plan) past (kinds.Touch t) = ⊥

-- a reader is where it has to be after a list of the device's events
pub record DeviceStandsFor (plan : DevicePlan) (past : List RawEvent) (r : Reading) : Type 0 where
  pub device_is : r.device ≡ number_of plan
  pub void_is : r.void ≡ is_void past
  pub kind_stands : KindStandsFor plan (since_drop past) r.kind
