-- Worked events of a touch device of ten slots, on a display of 1080 by 2400 with as many raw positions, and of a
-- device with keys, computed. The newest stands first.
use Rattle.std.specs.Prelude.{◌≡◌, ℕ, ℤ, pos, negsuc, Bool, true, false, List, [], ◌∷◌, ◌++◌, map, refl}
use Rattle.raw_events.specs.declared.event.RawEvent.{RawEvent}
use Rattle.input_types.specs.declared.axis.Rotation.TheVariants.{R0}
use Rattle.input_types.specs.declared.pointer.Pointer.{Pointer}
use Rattle.input_types.specs.declared.motion.MotionAction.{MotionAction}
use Rattle.input_types.specs.declared.motion.MotionAction.TheVariants.{Down, Up, Move, Cancel, PointerDown, PointerUp}
use Rattle.input_types.specs.declared.message.Args.{Args}
use Rattle.input_types.specs.declared.message.Args.TheVariants.{Motion as MotionArgs, Key, Reset}
use Rattle.device_reader.specs.PointerIds.PointerIds.{assigned, least_free}
use Rattle.device_reader.specs.Cooked.{DevicePlan, Touches, Keys, device_args}
use Rattle.device_reader.specs.CookedList.{cooked}

abbrev phone : DevicePlan
phone = Touches (record {
  device = 1;
  slots = 10;
  cook = record { x = record { min = pos 0; max = pos 1079 }; y = record { min = pos 0; max = pos 2399 }; width = 1080; height = 2400; rotation = R0 };
})

abbrev event : ℕ → ℕ → ℤ → RawEvent
event kind code value = record { device = 1; moment = 1000; kind = kind; code = code; value = value }

abbrev slot : ℕ → RawEvent
slot s = event 3 47 (pos s)

abbrev tracking : ℤ → RawEvent
tracking t = event 3 57 t

abbrev x : ℕ → RawEvent
x v = event 3 53 (pos v)

abbrev y : ℕ → RawEvent
y v = event 3 54 (pos v)

abbrev report : RawEvent
report = event 0 0 (pos 0)

abbrev drop : RawEvent
drop = event 0 3 (pos 0)

abbrev finger : ℕ → ℕ → ℕ → Pointer
finger i px py = record { id = i; at = record { x = pos px; y = pos py } }

abbrev says : MotionAction → ℕ → List Pointer → Args
says action index ps = MotionArgs (record { device = 1; action = action; index = index; flags = 0; pointers = ps })

-- two fingers in one packet
abbrev two : List RawEvent
two = report ∷ y 400 ∷ x 300 ∷ tracking (pos 46) ∷ slot 1 ∷ y 200 ∷ x 100 ∷ tracking (pos 45) ∷ slot 0 ∷ []

abbrev both : List Pointer
both = finger 0 100 200 ∷ finger 1 300 400 ∷ []

abbrev two_down : List Args
two_down = says PointerDown 1 both ∷ says Down 0 (finger 0 100 200 ∷ []) ∷ []

pub two_fingers : device_args phone two ≡ two_down
unfolding assigned least_free
two_fingers = refl

-- one moves, and goes up where it was
pub one_goes_up : device_args phone (report ∷ tracking (negsuc 0) ∷ report ∷ x 110 ∷ slot 0 ∷ two)
    ≡ says PointerUp 0 (finger 0 110 200 ∷ finger 1 300 400 ∷ []) ∷ says Move 0 (finger 0 110 200 ∷ finger 1 300 400 ∷ []) ∷ two_down
unfolding assigned least_free
one_goes_up = refl

-- a tracking id that changes in a packet is another finger
pub another_finger : device_args phone (report ∷ tracking (pos 46) ∷ report ∷ y 1200 ∷ x 540 ∷ tracking (pos 45) ∷ [])
    ≡ says Down 0 (finger 1 540 1200 ∷ []) ∷ says Up 0 (finger 0 540 1200 ∷ []) ∷ says Down 0 (finger 0 540 1200 ∷ []) ∷ []
unfolding assigned least_free
another_finger = refl

-- a drop in mid-packet: what comes up to the next SYN_REPORT is void, another drop too, and nothing is known of the
-- fingers after it
pub drop_in_a_packet : device_args phone (report ∷ x 130 ∷ report ∷ drop ∷ tracking (pos 47) ∷ drop ∷ x 120 ∷ slot 0 ∷ two) ≡ Reset 1 ∷ two_down
unfolding assigned least_free
drop_in_a_packet = refl

-- the current slot is 0 again after a drop, and its positions are too
pub slot_after_a_drop : device_args phone (report ∷ tracking (pos 48) ∷ report ∷ drop ∷ two) ≡ says Down 0 (finger 0 0 0 ∷ []) ∷ Reset 1 ∷ two_down
unfolding assigned least_free
slot_after_a_drop = refl

-- events after the last SYN_REPORT belong to no packet
pub no_report : device_args phone (tracking (negsuc 0) ∷ two) ≡ two_down
unfolding assigned least_free
no_report = refl

-- ---- palms

abbrev tool : ℕ → RawEvent
tool v = event 3 55 (pos v)

abbrev flagged : MotionAction → ℕ → List Pointer → Args
flagged action index ps = MotionArgs (record { device = 1; action = action; index = index; flags = 32; pointers = ps })

abbrev first : List Pointer
first = finger 0 100 200 ∷ []

-- The second of two fingers becomes a palm, and what it does then says nothing of it; then the first one does, and both
-- lift.
abbrev second_palm : List RawEvent
second_palm = report ∷ tool 2 ∷ two

abbrev second_palm_args : List Args
second_palm_args = flagged PointerUp 1 both ∷ two_down

pub both_become_palms : device_args phone
    (report ∷ tracking (negsuc 0) ∷ slot 1 ∷ tracking (negsuc 0) ∷ report ∷ tool 2 ∷ slot 0 ∷ report ∷ x 310 ∷ second_palm)
    ≡ says Cancel 0 first ∷ says Move 0 first ∷ second_palm_args
unfolding assigned least_free
both_become_palms = refl

-- a tool type that is written before its tracking id, in the packet of the down: it never is a pointer
pub palm_from_the_start : device_args phone (report ∷ x 540 ∷ report ∷ tracking (pos 45) ∷ tool 2 ∷ []) ≡ []
unfolding assigned least_free
palm_from_the_start = refl

-- a palm whose tool type goes back to 0 while its tracking id stays gives nothing more
pub palm_does_not_come_back : device_args phone (report ∷ x 310 ∷ tool 0 ∷ second_palm) ≡ says Move 0 first ∷ second_palm_args
unfolding assigned least_free
palm_does_not_come_back = refl

-- a new tracking id in its slot is another contact: a palm at once where the tool type stays, and a finger where it
-- does not
pub palm_again : device_args phone (report ∷ tracking (pos 47) ∷ second_palm) ≡ says Move 0 first ∷ second_palm_args
unfolding assigned least_free
palm_again = refl

pub finger_again : device_args phone (report ∷ tool 0 ∷ tracking (pos 47) ∷ second_palm) ≡ says PointerDown 1 both ∷ second_palm_args
unfolding assigned least_free
finger_again = refl

-- two palms in one packet of three fingers
pub two_of_three : device_args phone (report ∷ tool 2 ∷ slot 2 ∷ tool 2 ∷ slot 0 ∷ report ∷ tracking (pos 47) ∷ slot 2 ∷ two)
    ≡ flagged PointerUp 1 (finger 1 300 400 ∷ finger 2 0 0 ∷ [])
    ∷ flagged PointerUp 0 (finger 0 100 200 ∷ finger 1 300 400 ∷ finger 2 0 0 ∷ [])
    ∷ says PointerDown 2 (finger 0 100 200 ∷ finger 1 300 400 ∷ finger 2 0 0 ∷ [])
    ∷ two_down
unfolding assigned least_free
two_of_three = refl

-- a palm beside a finger that lifts in the same packet
pub palm_beside_an_up : device_args phone (report ∷ tracking (negsuc 0) ∷ slot 0 ∷ tool 2 ∷ two) ≡ says Cancel 0 (finger 1 300 400 ∷ []) ∷ says PointerUp 0 both ∷ two_down
unfolding assigned least_free
palm_beside_an_up = refl

-- a drop forgets the palm: its tracking id, written anew, is that of a finger
pub drop_of_a_palm : device_args phone (report ∷ tracking (pos 46) ∷ slot 1 ∷ report ∷ drop ∷ second_palm) ≡ says Down 0 (finger 0 0 0 ∷ []) ∷ Reset 1 ∷ second_palm_args
unfolding assigned least_free
drop_of_a_palm = refl

-- ---- all devices

-- moments never fall: what the clock gives later, but with an earlier moment, counts as of the latest moment that gave
-- args
abbrev at : ℕ → RawEvent → RawEvent
at us e = record { device = e.device; moment = us; kind = e.kind; code = e.code; value = e.value }

pub moments_never_fall : map (λ (g : ℕ × Args). g.0) (cooked (phone ∷ []) (at 1000 report ∷ at 9000 (x 7) ∷ at 2000 report ∷ tracking (pos 45) ∷ [])) ≡ 2000 ∷ 2000 ∷ []
unfolding assigned least_free
moments_never_fall = refl

-- an event of a device without a plan gives nothing
pub no_such_device : cooked [] (report ∷ tracking (pos 45) ∷ []) ≡ []
no_such_device = refl

-- ---- a device with volume keys

abbrev remote : DevicePlan
remote = Keys (record { device = 1; layout = (115, 24) ∷ [] })

abbrev key : ℕ → ℕ → RawEvent
key scan value = event 1 scan (pos value)

abbrev moved : ℕ → ℕ → Bool → Args
moved scan code down = Key (record { device = 1; scan = scan; code = code; meta = 0; down = down })

-- a scan code that the layout does not have gives code 0, and the kernel's repeat of a key gives nothing
pub keys_go_down_and_up : device_args remote (key 999 2 ∷ key 999 1 ∷ key 115 0 ∷ key 115 1 ∷ []) ≡ moved 999 0 true ∷ moved 115 24 false ∷ moved 115 24 true ∷ []
keys_go_down_and_up = refl

-- after a drop the key is up, and may go down anew once the next SYN_REPORT came
pub drop_of_a_key : device_args remote (key 115 1 ∷ report ∷ key 115 0 ∷ drop ∷ key 115 1 ∷ []) ≡ moved 115 24 true ∷ Reset 1 ∷ moved 115 24 true ∷ []
drop_of_a_key = refl

-- a device with keys passes over touch, and a touch device over keys
pub others_are_passed_over : device_args remote two ++ device_args phone (report ∷ key 115 1 ∷ []) ≡ []
unfolding assigned least_free
others_are_passed_over = refl
