-- Worked packets, computed. The newest packet stands first.
use Rattle.std.specs.Prelude.{◌≡◌, ℕ, ◌==◌, zero, suc, pos, nat_abs, Bool, true, false, List, [], ◌∷◌, get_or, map, refl}
use Rattle.std.proofs.Common.{ap, arith}
use Rattle.std.proofs.lemmas.Nat.Bits.{bit_at_above}
use Rattle.device_reader.specs.declared.slot_accumulator.contacts.Contact.{Contact}
use Rattle.device_reader.specs.declared.pointer_ids.named.Named.{Named}
use Rattle.device_reader.specs.declared.pointer_ids.assigned.Held.{Held}
use Rattle.device_reader.specs.PointerIds.PointerIds.{named_after, is_cancelled, assigned, least_free}
use Rattle.bits32.specs.Set.{is_in}
use Rattle.device_reader.specs.PointerIds.Following.{are_same, moved}
use Rattle.device_reader.specs.PointerIds.Slots.{slot_of, is_written, contact_where, pointer_where}
use Rattle.device_reader.specs.declared.slot_accumulator.slots.Row.{Row}

-- a contact of this slot and tracking id, at (slot, 0)
abbrev touch : ℕ → ℕ → Contact
touch slot tracking = record { slot = slot; tracking = pos tracking; x = pos slot; y = pos 0; palm = false }

abbrev ids : List (List Contact) → List ℕ
ids past = map (λ (n : Named). n.id) (named_after past)

abbrev held : ℕ → ℕ → Held
held i slot = record { id = i; x = pos slot; y = pos 0 }

pub two_fingers : ids ((touch 0 45 ∷ touch 1 46 ∷ []) ∷ []) ≡ 0 ∷ 1 ∷ []
unfolding least_free
two_fingers = refl

-- an id that is freed in a packet is not given in it
pub freed_at_once : ids ((touch 0 46 ∷ []) ∷ (touch 0 45 ∷ []) ∷ []) ≡ 1 ∷ []
unfolding least_free
freed_at_once = refl

-- but in the next one
pub freed_before : ids ((touch 0 47 ∷ []) ∷ (touch 0 46 ∷ []) ∷ (touch 0 45 ∷ []) ∷ []) ≡ 0 ∷ []
unfolding least_free
freed_before = refl

-- an id stays with its tracking id, in whichever slot
pub moves_to_a_slot : ids ((touch 3 46 ∷ []) ∷ (touch 0 45 ∷ touch 1 46 ∷ []) ∷ []) ≡ 1 ∷ []
unfolding least_free
moves_to_a_slot = refl

-- new contacts are served in slot order, and pointers listed in the order of their ids
pub slot_order : ids ((touch 0 50 ∷ touch 1 45 ∷ touch 2 51 ∷ []) ∷ (touch 1 45 ∷ []) ∷ []) ≡ 1 ∷ 0 ∷ 2 ∷ []
unfolding least_free
slot_order = refl

pub rising_ids : assigned (named_after ((touch 0 50 ∷ touch 1 45 ∷ touch 2 51 ∷ []) ∷ (touch 1 45 ∷ []) ∷ []))
    ≡ held 0 1 ∷ held 1 0 ∷ held 2 2 ∷ []
unfolding least_free assigned
rising_ids = refl

-- a packet without contacts forgets all ids
pub all_gone : ids ((touch 1 46 ∷ []) ∷ [] ∷ (touch 0 45 ∷ touch 1 46 ∷ []) ∷ []) ≡ 0 ∷ []
unfolding least_free
all_gone = refl

-- ---- palms

abbrev palm : ℕ → ℕ → Contact
palm slot tracking = record { slot = slot; tracking = pos tracking; x = pos slot; y = pos 0; palm = true }

-- the ids below four that are cancelled in the newest of some packets
abbrev cancelled : List (List Contact) → List Bool
cancelled [] = []
cancelled (cs ∷ past) = map (λ i. is_cancelled (named_after past) cs i) (0 ∷ 1 ∷ 2 ∷ 3 ∷ [])

-- the second finger becomes a palm: it is no pointer, and its id is cancelled
abbrev second_is_a_palm : List (List Contact)
second_is_a_palm = (touch 0 45 ∷ palm 1 46 ∷ []) ∷ (touch 0 45 ∷ touch 1 46 ∷ []) ∷ []

pub one_palm : (ids second_is_a_palm ≡ 0 ∷ []) × (cancelled second_is_a_palm ≡ false ∷ true ∷ false ∷ false ∷ [])
unfolding least_free
one_palm = (refl, refl)

-- in that packet alone
pub cancelled_once : cancelled ((touch 0 45 ∷ palm 1 46 ∷ []) ∷ second_is_a_palm) ≡ false ∷ false ∷ false ∷ false ∷ []
unfolding least_free
cancelled_once = refl

-- a new finger does not get the cancelled id in the packet that cancels it, but may in the next one
pub cancelled_id_waits : ids ((touch 0 45 ∷ palm 1 46 ∷ touch 2 47 ∷ []) ∷ (touch 0 45 ∷ touch 1 46 ∷ []) ∷ []) ≡ 0 ∷ 2 ∷ []
unfolding least_free
cancelled_id_waits = refl

pub cancelled_id_is_free : ids ((touch 0 45 ∷ palm 1 46 ∷ touch 2 47 ∷ []) ∷ second_is_a_palm) ≡ 0 ∷ 1 ∷ []
unfolding least_free
cancelled_id_is_free = refl

-- a contact that is a palm from its first packet on never has an id, and cancels none
pub palm_at_once : (ids ((touch 0 45 ∷ palm 1 46 ∷ []) ∷ (touch 0 45 ∷ []) ∷ []) ≡ 0 ∷ [])
    × (cancelled ((touch 0 45 ∷ palm 1 46 ∷ []) ∷ (touch 0 45 ∷ []) ∷ []) ≡ false ∷ false ∷ false ∷ false ∷ [])
unfolding least_free
palm_at_once = (refl, refl)

-- two palms in one packet of three fingers
pub two_palms : (ids ((palm 0 45 ∷ touch 1 46 ∷ palm 2 47 ∷ []) ∷ (touch 0 45 ∷ touch 1 46 ∷ touch 2 47 ∷ []) ∷ []) ≡ 1 ∷ [])
    × (cancelled ((palm 0 45 ∷ touch 1 46 ∷ palm 2 47 ∷ []) ∷ (touch 0 45 ∷ touch 1 46 ∷ touch 2 47 ∷ []) ∷ []) ≡ true ∷ false ∷ true ∷ false ∷ [])
unfolding least_free
two_palms = (refl, refl)

-- a finger that lifts beside one that becomes a palm is gone, and not cancelled
pub one_lifts : (ids ((palm 1 46 ∷ []) ∷ (touch 0 45 ∷ touch 1 46 ∷ []) ∷ []) ≡ [])
    × (cancelled ((palm 1 46 ∷ []) ∷ (touch 0 45 ∷ touch 1 46 ∷ []) ∷ []) ≡ false ∷ true ∷ false ∷ false ∷ [])
unfolding least_free
one_lifts = (refl, refl)

-- ---- fingers that only moved

abbrev two : List Named
two = record { tracking = pos 45; id = 1; x = pos 0; y = pos 0 } ∷ record { tracking = pos 46; id = 0; x = pos 1; y = pos 0 } ∷ []

abbrev at : ℕ → ℕ → ℕ → Contact
at slot tracking x = record { slot = slot; tracking = pos tracking; x = pos x; y = pos 7; palm = false }

pub only_moved : are_same two (at 0 45 5 ∷ at 1 46 6 ∷ []) ≡ true
only_moved = refl

pub keep_their_ids : moved two (at 0 45 5 ∷ at 1 46 6 ∷ [])
    ≡ record { tracking = pos 45; id = 1; x = pos 5; y = pos 7 } ∷ record { tracking = pos 46; id = 0; x = pos 6; y = pos 7 } ∷ []
keep_their_ids = refl

pub other_finger : are_same two (at 0 45 5 ∷ at 1 47 6 ∷ []) ≡ false
other_finger = refl

pub fewer_fingers : are_same two (at 0 45 5 ∷ []) ≡ false
fewer_fingers = refl

-- ---- the slots of fingers

-- finger 1 is in slot 0 and finger 0 in slot 1; no finger has id 2
pub slots_of_two : (slot_of 1 two (at 0 45 5 ∷ at 1 46 6 ∷ []) ≡ 0) × (slot_of 0 two (at 0 45 5 ∷ at 1 46 6 ∷ []) ≡ 1) × (slot_of 2 two (at 0 45 5 ∷ at 1 46 6 ∷ []) ≡ 0)
slots_of_two = (refl, refl, refl)

abbrev rows : ℕ → Row
rows s = record { tracking = pos 45; x = pos 8; y = pos 9; tool = pos 0 }

-- slot 1 was written, slot 0 was not, and there is no slot 16
pub only_one_is : (is_written 65538 1 ≡ true) × (is_written 65538 0 ≡ false) × (is_written 65538 16 ≡ false)
only_one_is = (refl, refl, refl)

pub one_goes : map (λ (c : Contact). contact_where (λ s. is_written 2 s) rows c) (at 0 45 5 ∷ at 1 46 6 ∷ [])
    ≡ at 0 45 5 ∷ record { slot = 1; tracking = pos 46; x = pos 8; y = pos 9; palm = false } ∷ []
one_goes = refl

pub its_pointer_goes : (pointer_where (λ s. is_written 2 s) rows 1 (held 3 5) ≡ record { id = 3; x = pos 8; y = pos 9 })
    × (pointer_where (λ s. is_written 2 s) rows 0 (held 0 1) ≡ held 0 1)
its_pointer_goes = (refl, refl)
