-- Worked examples of the rules for devices and for windows, computed.
use Rattle.std.specs.Prelude.{◌≡◌, ℕ, List, [], ◌∷◌, Some, None, Bool, true, false, pos, refl}
use Rattle.std.specs.Option.{option_map}
use Rattle.input_types.specs.declared.pointer.Pointer.{Pointer}
use Rattle.input_types.specs.declared.motion.Motion.{Motion}
use Rattle.input_types.specs.declared.motion.MotionAction.{MotionAction}
use Rattle.input_types.specs.declared.motion.MotionAction.TheVariants.{Down, Up, Move, Cancel, Outside, PointerDown, PointerUp}
use Rattle.input_types.specs.declared.message.Args.TheVariants.{Motion as MotionArgs, Key as KeyArgs, Reset}
use Rattle.input_types.specs.declared.message.Body.TheVariants.{Motion as MotionBody, Key as KeyBody, Focus}
use Rattle.input_types.specs.declared.message.Message.{Message}
use Rattle.input_types.specs.Gestures.{after_motion, after_sent}
use Rattle.input_types.specs.DeviceRule.{device_state}
use Rattle.input_types.specs.StreamRule.{is_well_formed}
use Rattle.input_types.specs.Displays.{device_display}

-- a pointer that stands at (100, 200)
abbrev at : ℕ → Pointer
at i = record { id = i; at = record { x = pos 100; y = pos 200 } }

-- a motion of device 1
abbrev motion : MotionAction → ℕ → ℕ → List Pointer → Motion
motion action index flags ps = record { device = 1; action = action; index = index; flags = flags; pointers = ps }

abbrev says : Motion → Message
says m = record { seq = 1; moment = 0; body = MotionBody m }

-- the device's part: two fingers go down, both move, the first goes up; newest first
pub two_fingers : option_map (λ s. s.ids) (device_state 1 (
    MotionArgs (motion PointerUp 0 0 (at 0 ∷ at 1 ∷ [])) ∷ MotionArgs (motion Move 0 0 (at 0 ∷ at 1 ∷ []))
    ∷ MotionArgs (motion PointerDown 1 0 (at 0 ∷ at 1 ∷ [])) ∷ MotionArgs (motion Down 0 0 (at 0 ∷ [])) ∷ [])) ≡ Some (1 ∷ [])
two_fingers = refl

-- a reset ends everything that is down on its device, and does not affect another device
pub reset_ends : option_map (λ s. s.ids) (device_state 1 (Reset 1 ∷ MotionArgs (motion Down 0 0 (at 0 ∷ [])) ∷ [])) ≡ Some []
reset_ends = refl

pub reset_of_another : option_map (λ s. s.ids) (device_state 1 (Reset 2 ∷ MotionArgs (motion Down 0 0 (at 0 ∷ [])) ∷ [])) ≡ Some (0 ∷ [])
reset_of_another = refl

-- a device cancels its only finger, which became a palm
pub palm_of_the_only_finger : option_map (λ s. s.ids) (device_state 1 (MotionArgs (motion Cancel 0 0 (at 0 ∷ [])) ∷ MotionArgs (motion Down 0 0 (at 0 ∷ [])) ∷ []))
    ≡ Some []
palm_of_the_only_finger = refl

-- it cancels one of two fingers by an up with the flag
pub palm_of_one_finger : option_map (λ s. s.ids) (device_state 1 (
    MotionArgs (motion PointerUp 1 32 (at 0 ∷ at 1 ∷ [])) ∷ MotionArgs (motion PointerDown 1 0 (at 0 ∷ at 1 ∷ []))
    ∷ MotionArgs (motion Down 0 0 (at 0 ∷ [])) ∷ [])) ≡ Some (0 ∷ [])
palm_of_one_finger = refl

-- a device never cancels two fingers at once, and never reports one outside
pub no_cancel_of_two : option_map (λ s. s.ids) (device_state 1 (
    MotionArgs (motion Cancel 0 0 (at 0 ∷ at 1 ∷ [])) ∷ MotionArgs (motion PointerDown 1 0 (at 0 ∷ at 1 ∷ []))
    ∷ MotionArgs (motion Down 0 0 (at 0 ∷ [])) ∷ [])) ≡ None
no_cancel_of_two = refl

pub no_outside_of_a_device : option_map (λ s. s.ids) (device_state 1 (MotionArgs (motion Outside 0 0 (at 0 ∷ [])) ∷ [])) ≡ None
no_outside_of_a_device = refl

-- a window's second finger is no second Down
pub second_down : after_motion (0 ∷ []) (motion Down 0 0 (at 1 ∷ [])) ≡ None
second_down = refl

-- the new finger takes its place among the others, which the index gives
pub finger_between : after_motion (0 ∷ 2 ∷ []) (motion PointerDown 1 0 (at 0 ∷ at 1 ∷ at 2 ∷ [])) ≡ Some (0 ∷ 1 ∷ 2 ∷ [])
finger_between = refl

pub wrong_index : after_motion (0 ∷ 2 ∷ []) (motion PointerDown 2 0 (at 0 ∷ at 1 ∷ at 2 ∷ [])) ≡ None
wrong_index = refl

-- a finger that is taken away goes up cancelled, the last one is cancelled by a Cancel
pub lost_one : after_motion (0 ∷ 1 ∷ []) (motion PointerUp 0 32 (at 0 ∷ at 1 ∷ [])) ≡ Some (1 ∷ [])
lost_one = refl

pub up_with_flag : after_motion (0 ∷ []) (motion Up 0 32 (at 0 ∷ [])) ≡ None
up_with_flag = refl

-- a gesture that is cancelled is over: no Up follows
pub well_formed_gesture : is_well_formed (says (motion Cancel 0 0 (at 0 ∷ [])) ∷ says (motion Move 0 0 (at 0 ∷ [])) ∷ says (motion Down 0 0 (at 0 ∷ [])) ∷ []) ≡ true
well_formed_gesture = refl

pub up_after_cancel : is_well_formed (says (motion Up 0 0 (at 0 ∷ [])) ∷ says (motion Cancel 0 0 (at 0 ∷ [])) ∷ says (motion Down 0 0 (at 0 ∷ [])) ∷ []) ≡ false
up_after_cancel = refl

-- what a window is sent may have marks, an up beside FLAG_CANCELED; what falls outside of it has none, and neither has
-- what a device does
pub marks_on_a_gesture : is_well_formed (says (motion Move 0 1 (at 0 ∷ [])) ∷ says (motion Down 0 3 (at 0 ∷ [])) ∷ []) ≡ true
marks_on_a_gesture = refl

pub marks_on_a_lost_finger : after_sent (0 ∷ 1 ∷ []) (motion PointerUp 0 34 (at 0 ∷ at 1 ∷ [])) ≡ Some (1 ∷ [])
marks_on_a_lost_finger = refl

pub no_marks_on_an_outside : is_well_formed (says (motion Outside 0 1 (at 0 ∷ [])) ∷ []) ≡ false
no_marks_on_an_outside = refl

pub no_marks_on_a_device : option_map (λ s. s.ids) (device_state 1 (MotionArgs (motion Down 0 1 (at 0 ∷ [])) ∷ [])) ≡ None
no_marks_on_a_device = refl

-- a key message of scan code 30 on device 1
abbrev key : Bool → ℕ → ℕ → Message
key down flags repeat =
    record { seq = 1; moment = 0; body = KeyBody (record { key = record { device = 1; scan = 30; code = 29; meta = 0; down = down }; flags = flags; repeat = repeat }) }

abbrev focus : Bool → Message
focus b = record { seq = 1; moment = 0; body = Focus b }

-- repeats of a held key are numbered, and a cancelled up ends it
pub repeats_in_order : is_well_formed (focus false ∷ key false 32 0 ∷ key true 0 2 ∷ key true 0 1 ∷ key true 0 0 ∷ focus true ∷ []) ≡ true
repeats_in_order = refl

pub repeat_that_skips_one : is_well_formed (key true 0 2 ∷ key true 0 0 ∷ []) ≡ false
repeat_that_skips_one = refl

pub up_of_no_key : is_well_formed (key false 0 0 ∷ []) ≡ false
up_of_no_key = refl

pub focus_lost_first : is_well_formed (focus false ∷ []) ≡ false
focus_lost_first = refl

-- a device's key goes down once
pub key_twice : option_map (λ s. s.ids) (device_state 1 (KeyArgs (record { device = 1; scan = 30; code = 29; meta = 0; down = true })
    ∷ KeyArgs (record { device = 1; scan = 30; code = 29; meta = 0; down = true }) ∷ [])) ≡ None
key_twice = refl

-- two devices on two displays
pub each_device_its_display : device_display (0 ∷ 1 ∷ 0 ∷ 0 ∷ 0 ∷ 0 ∷ 0 ∷ 0 ∷ []) 2 ≡ 1
each_device_its_display = refl
