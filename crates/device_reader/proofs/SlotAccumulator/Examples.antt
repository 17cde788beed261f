-- Worked events of a device of ten slots, computed. The newest event stands first.
use Rattle.std.specs.Prelude.{◌≡◌, ℕ, ℤ, pos, negsuc, true, false, List, [], ◌∷◌, refl}
use Rattle.raw_events.specs.declared.event.RawEvent.{RawEvent}
use Rattle.device_reader.specs.declared.slot_accumulator.contacts.Contact.{Contact}
use Rattle.device_reader.specs.SlotAccumulator.SlotContacts.{contacts_at}

abbrev event : ℕ → ℕ → ℤ → RawEvent
event kind code value = record { device = 1; moment = 1000; kind = kind; code = code; value = value }

abbrev slot : ℤ → RawEvent
slot s = event 3 47 s

abbrev tracking : ℤ → RawEvent
tracking t = event 3 57 t

abbrev x : ℤ → RawEvent
x v = event 3 53 v

abbrev y : ℤ → RawEvent
y v = event 3 54 v

abbrev report : RawEvent
report = event 0 0 (pos 0)

abbrev at : ℕ → ℤ → ℤ → ℤ → Contact
at s t px py = record { slot = s; tracking = t; x = px; y = py; palm = false }

-- two fingers
abbrev two : List RawEvent
two = y (pos 400) ∷ x (pos 300) ∷ tracking (pos 46) ∷ slot (pos 1) ∷ y (pos 200) ∷ x (pos 100) ∷ tracking (pos 45) ∷ slot (pos 0) ∷ []

pub two_fingers : contacts_at 10 two ≡ at 0 (pos 45) (pos 100) (pos 200) ∷ at 1 (pos 46) (pos 300) (pos 400) ∷ []
two_fingers = refl

-- a slot keeps its positions after its contact ended
pub positions_stay : contacts_at 10 (tracking (pos 47) ∷ report ∷ tracking (negsuc 0) ∷ slot (pos 0) ∷ two)
    ≡ at 0 (pos 47) (pos 100) (pos 200) ∷ at 1 (pos 46) (pos 300) (pos 400) ∷ []
positions_stay = refl

-- of two slots with one tracking id the lower one holds the contact
pub one_tracking_id_twice : contacts_at 10 (tracking (pos 45) ∷ slot (pos 1) ∷ two) ≡ at 0 (pos 45) (pos 100) (pos 200) ∷ []
one_tracking_id_twice = refl

-- the current slot is 0 where no ABS_MT_SLOT comes
pub no_slot_named : contacts_at 10 (x (pos 540) ∷ tracking (pos 45) ∷ []) ≡ at 0 (pos 45) (pos 540) (pos 0) ∷ []
no_slot_named = refl

-- what is written to a slot that the device does not have is not seen
pub slot_outside : contacts_at 10 (x (pos 7) ∷ tracking (pos 48) ∷ slot (pos 10) ∷ two) ≡ contacts_at 10 two
slot_outside = refl

pub slot_below_zero : contacts_at 10 (x (pos 7) ∷ tracking (pos 48) ∷ slot (negsuc 0) ∷ two) ≡ contacts_at 10 two
slot_below_zero = refl

-- BTN_TOUCH, 0x14a, is no contact, and an EV_KEY event with the code of a tracking id writes nothing
pub keys_passed_over : contacts_at 10 (event 1 57 (negsuc 0) ∷ event 1 330 (pos 1) ∷ two) ≡ contacts_at 10 two
keys_passed_over = refl

-- ---- palms

abbrev tool : ℤ → RawEvent
tool v = event 3 55 v

abbrev palm_at : ℕ → ℤ → ℤ → ℤ → Contact
palm_at s t px py = record { slot = s; tracking = t; x = px; y = py; palm = true }

-- the second of two fingers becomes a palm, which is noted at the packet's end
abbrev one_palm : List RawEvent
one_palm = report ∷ tool (pos 2) ∷ report ∷ two

pub becomes_a_palm : contacts_at 10 one_palm ≡ at 0 (pos 45) (pos 100) (pos 200) ∷ palm_at 1 (pos 46) (pos 300) (pos 400) ∷ []
becomes_a_palm = refl

-- its tool type goes back to 0: it stays a palm while its tracking id stays
pub stays_a_palm : contacts_at 10 (report ∷ tool (pos 0) ∷ one_palm) ≡ at 0 (pos 45) (pos 100) (pos 200) ∷ palm_at 1 (pos 46) (pos 300) (pos 400) ∷ []
stays_a_palm = refl

-- also in another slot
pub palm_moves : contacts_at 10 (report ∷ tracking (pos 46) ∷ slot (pos 2) ∷ tracking (negsuc 0) ∷ one_palm)
    ≡ at 0 (pos 45) (pos 100) (pos 200) ∷ palm_at 2 (pos 46) (pos 0) (pos 0) ∷ []
palm_moves = refl

-- a tool type that is written before the tracking id, in the packet of the down: a palm at once
pub tool_first : contacts_at 10 (report ∷ x (pos 7) ∷ tracking (pos 45) ∷ tool (pos 2) ∷ []) ≡ palm_at 0 (pos 45) (pos 7) (pos 0) ∷ []
tool_first = refl

-- the slot keeps its tool type, so a new tracking id in it is a palm at once
pub next_in_the_slot : contacts_at 10 (report ∷ tracking (pos 47) ∷ one_palm) ≡ at 0 (pos 45) (pos 100) (pos 200) ∷ palm_at 1 (pos 47) (pos 300) (pos 400) ∷ []
next_in_the_slot = refl

-- a tracking id that comes back after a packet without it is that of another contact
pub comes_back : contacts_at 10 (report ∷ tracking (pos 46) ∷ tool (pos 0) ∷ report ∷ tracking (negsuc 0) ∷ one_palm)
    ≡ at 0 (pos 45) (pos 100) (pos 200) ∷ at 1 (pos 46) (pos 300) (pos 400) ∷ []
comes_back = refl

-- a tool type that is back at 0 by the packet's end was none
pub back_in_time : contacts_at 10 (report ∷ tool (pos 0) ∷ tool (pos 2) ∷ report ∷ two) ≡ at 0 (pos 45) (pos 100) (pos 200) ∷ at 1 (pos 46) (pos 300) (pos 400) ∷ []
back_in_time = refl

-- of two slots with one tracking id the lower one's tool type counts
pub higher_slot_says_palm : contacts_at 10 (report ∷ tool (pos 2) ∷ tracking (pos 45) ∷ slot (pos 1) ∷ two) ≡ at 0 (pos 45) (pos 100) (pos 200) ∷ []
higher_slot_says_palm = refl
