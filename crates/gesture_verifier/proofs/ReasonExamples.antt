-- Each reason, computed: of device 1 some ids are down, its key 7 is down and due with repeat 3, its key 8 is up, and the window has the focus.
use Rattle.std.specs.Prelude.{◌≡◌, ℕ, Bool, List, [], ◌∷◌, Option, Some, None, false, true, refl, pos}
use Rattle.input_types.specs.declared.message.Body.TheVariants.{Motion as MotionBody, Key, Focus}
use Rattle.input_types.specs.declared.motion.MotionAction.{MotionAction}
use Rattle.input_types.specs.declared.motion.MotionAction.TheVariants.{Down, Up, Move, Cancel, Outside, PointerDown, PointerUp}
use Rattle.input_types.specs.declared.pointer.Pointer.{Pointer}
use Rattle.input_types.specs.StreamRule.{StreamState, with_repeat}
use Rattle.gesture_verifier.specs.declared.reason.Reason.{Reason}
use Rattle.gesture_verifier.specs.declared.reason.Reason.TheVariants.{Flags, AlreadyDown, OnePointer, NothingDown, OtherPointers, LastPointer, MorePointers, RepeatOfNothing, RepeatOutOfTurn, KeyNotDown, RepeatOnUp, FocusTwice}
use Rattle.gesture_verifier.specs.Reasons.{reason_of}

abbrev known : List ℕ → StreamState
known ids = record { ids = λ _. ids; repeats = with_repeat (λ _ _. None) 1 7 (Some 3); focus = true }

abbrev finger : ℕ → Pointer
finger id = record { id = id; at = record { x = pos 1; y = pos 1 } }

-- why a motion that lists fingers may not come if ids are down
abbrev why : List ℕ → MotionAction → ℕ → ℕ → List Pointer → Option Reason
why down action index flags listed =
    reason_of (known down) (MotionBody (record { device = 1; action = action; index = index; flags = flags; pointers = listed }))

-- why a key of device 1 may not go down, or up
abbrev why_key : ℕ → Bool → ℕ → Option Reason
why_key scan down repeat =
    reason_of (known []) (Key (record { key = record { device = 1; scan = scan; code = 0; meta = 0; down = down }; flags = 0; repeat = repeat }))

abbrev two_fingers : List Pointer
two_fingers = finger 0 ∷ finger 2 ∷ []

pub canceled_move : why (0 ∷ []) Move 0 32 (finger 0 ∷ []) ≡ Some Flags
canceled_move = refl

pub canceled_pointer_up : why (0 ∷ 2 ∷ []) PointerUp 1 32 two_fingers ≡ None
canceled_pointer_up = refl

-- 1 and 2 are the marks: any motion but an Outside may have them
pub marked_move : why (0 ∷ []) Move 0 3 (finger 0 ∷ []) ≡ None
marked_move = refl

pub marked_canceled_move : why (0 ∷ []) Move 0 34 (finger 0 ∷ []) ≡ Some Flags
marked_canceled_move = refl

pub marked_canceled_pointer_up : why (0 ∷ 2 ∷ []) PointerUp 1 33 two_fingers ≡ None
marked_canceled_pointer_up = refl

pub marked_outside : why (0 ∷ []) Outside 0 2 (finger 0 ∷ []) ≡ Some Flags
marked_outside = refl

pub down_twice : why (0 ∷ []) Down 0 0 (finger 0 ∷ []) ≡ Some AlreadyDown
down_twice = refl

pub down_of_two : why [] Down 0 0 two_fingers ≡ Some OnePointer
down_of_two = refl

pub down : why [] Down 0 0 (finger 0 ∷ []) ≡ None
down = refl

pub further_down_of_none : why [] PointerDown 1 0 two_fingers ≡ Some NothingDown
further_down_of_none = refl

pub further_down_of_one_that_is_down : why (0 ∷ []) PointerDown 0 0 two_fingers ≡ Some AlreadyDown
further_down_of_one_that_is_down = refl

pub further_down_beside_another : why (3 ∷ []) PointerDown 1 0 two_fingers ≡ Some OtherPointers
further_down_beside_another = refl

pub further_down : why (0 ∷ []) PointerDown 1 0 two_fingers ≡ None
further_down = refl

pub move_of_none : why [] Move 0 0 two_fingers ≡ Some NothingDown
move_of_none = refl

pub move_of_others : why (0 ∷ []) Move 0 0 two_fingers ≡ Some OtherPointers
move_of_others = refl

pub one_of_none_goes_up : why [] PointerUp 0 0 two_fingers ≡ Some NothingDown
one_of_none_goes_up = refl

pub one_of_others_goes_up : why (4 ∷ []) PointerUp 0 0 two_fingers ≡ Some OtherPointers
one_of_others_goes_up = refl

pub the_last_goes_up_as_one_of_several : why (4 ∷ []) PointerUp 0 0 (finger 4 ∷ []) ≡ Some LastPointer
the_last_goes_up_as_one_of_several = refl

pub up_of_several : why (0 ∷ 2 ∷ []) Up 0 0 two_fingers ≡ Some MorePointers
up_of_several = refl

pub up_of_none : why [] Up 0 0 (finger 4 ∷ []) ≡ Some NothingDown
up_of_none = refl

pub cancel_of_none : why [] Cancel 0 0 two_fingers ≡ Some NothingDown
cancel_of_none = refl

pub cancel_of_others : why (0 ∷ []) Cancel 0 0 two_fingers ≡ Some OtherPointers
cancel_of_others = refl

pub outside_of_two : why (0 ∷ []) Outside 0 0 two_fingers ≡ Some OnePointer
outside_of_two = refl

pub repeat_of_a_key_that_is_up : why_key 8 true 1 ≡ Some RepeatOfNothing
repeat_of_a_key_that_is_up = refl

pub a_repeat_is_left_out : why_key 7 true 4 ≡ Some RepeatOutOfTurn
a_repeat_is_left_out = refl

pub the_next_repeat : why_key 7 true 3 ≡ None
the_next_repeat = refl

pub up_of_a_key_that_is_up : why_key 8 false 0 ≡ Some KeyNotDown
up_of_a_key_that_is_up = refl

pub up_with_a_repeat : why_key 7 false 3 ≡ Some RepeatOnUp
up_with_a_repeat = refl

pub focus_twice : reason_of (known []) (Focus true) ≡ Some FocusTwice
focus_twice = refl

pub focus_lost : reason_of (known []) (Focus false) ≡ None
focus_lost = refl
