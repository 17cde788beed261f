-- Worked motions: two windows hold a finger each, or one holds both.
use Rattle.std.specs.Prelude.{ℕ, pos, ◌==◌, ◌≡◌, Bool, true, List, [], ◌∷◌, Some, None, refl}
use Rattle.input_types.specs.declared.motion.Motion.{Motion}
use Rattle.input_types.specs.declared.motion.MotionAction.{MotionAction}
use Rattle.input_types.specs.declared.motion.MotionAction.TheVariants.{Down, Up, Move, Cancel, PointerDown, PointerUp}
use Rattle.input_types.specs.declared.pointer.Pointer.{Pointer}
use Rattle.split_motion.specs.Split.{split_of}

abbrev at : ℕ → ℕ → ℕ → Pointer
at i x y = record { id = i; at = record { x = pos x; y = pos y } }

abbrev motion : MotionAction → ℕ → ℕ → List Pointer → Motion
motion action index flags ps = record { device = 1; action = action; index = index; flags = flags; pointers = ps }

abbrev both : List Pointer
both = at 0 100 200 ∷ at 1 700 400 ∷ []

-- one id, and all of them
abbrev only : ℕ → ℕ → Bool
only i j = i == j

abbrev all : ℕ → Bool
all j = true

a_second_finger_is_the_first_of_another_window : split_of (motion PointerDown 1 0 both) (only 1) ≡ Some (motion Down 0 0 (at 1 700 400 ∷ []))
a_second_finger_is_the_first_of_another_window = refl

and_a_move_in_the_one_that_holds_the_first : split_of (motion PointerDown 1 0 both) (only 0) ≡ Some (motion Move 0 0 (at 0 100 200 ∷ []))
and_a_move_in_the_one_that_holds_the_first = refl

one_window_is_sent_it_as_it_is : split_of (motion PointerDown 1 0 both) all ≡ Some (motion PointerDown 1 0 both)
one_window_is_sent_it_as_it_is = refl

an_up_of_one_of_two_is_the_last_one_of_its_window : split_of (motion PointerUp 0 0 both) (only 0) ≡ Some (motion Up 0 0 (at 0 100 200 ∷ []))
an_up_of_one_of_two_is_the_last_one_of_its_window = refl

a_cancelled_up_of_one_of_two_is_a_cancel_in_its_window :
    split_of (motion PointerUp 1 32 both) (only 1) ≡ Some (motion Cancel 0 0 (at 1 700 400 ∷ []))
a_cancelled_up_of_one_of_two_is_a_cancel_in_its_window = refl

and_a_move_in_the_other : split_of (motion PointerUp 1 32 both) (only 0) ≡ Some (motion Move 0 0 (at 0 100 200 ∷ []))
and_a_move_in_the_other = refl

a_cancelled_up_keeps_its_flag_in_a_window_with_both : split_of (motion PointerUp 1 32 both) all ≡ Some (motion PointerUp 1 32 both)
a_cancelled_up_keeps_its_flag_in_a_window_with_both = refl

a_window_with_none_of_them_is_sent_nothing : split_of (motion Move 0 0 both) (only 2) ≡ None
a_window_with_none_of_them_is_sent_nothing = refl
