-- Worked positions and packets, computed.
use Rattle.std.specs.Prelude.{◌≡◌, ℕ, ℤ, pos, negsuc, Bool, false, nat_eq, List, [], ◌∷◌, refl}
use Rattle.std.specs.List.{list_any}
use Rattle.input_types.specs.declared.axis.Axis.{Axis}
use Rattle.input_types.specs.declared.axis.Pixel.{Pixel}
use Rattle.input_types.specs.declared.axis.Rotation.{Rotation}
use Rattle.input_types.specs.declared.axis.Rotation.TheVariants.{R0, R90, R180, R270}
use Rattle.input_types.specs.declared.pointer.Pointer.{Pointer}
use Rattle.input_types.specs.declared.motion.Motion.{Motion}
use Rattle.input_types.specs.declared.motion.MotionAction.{MotionAction}
use Rattle.input_types.specs.declared.motion.MotionAction.TheVariants.{Down, Up, Move, Cancel, PointerDown, PointerUp}
use Rattle.device_reader.specs.TouchMapper.Cooking.{Cooking, pixel, can_cook, natural}
use Rattle.device_reader.specs.TouchMapper.Gesture.{gesture, held_ids, move_of, placed_all}
use Rattle.device_reader.specs.declared.pointer_ids.assigned.Held.{Held}

abbrev axis : ℤ → ℤ → Axis
axis least greatest = record { min = least; max = greatest }

abbrev at : ℕ → ℕ → Pixel
at x y = record { x = pos x; y = pos y }

-- both axes 0 to 4095, on a display of 1080 by 2400 pixels
abbrev phone : Rotation → Cooking
phone r = record { x = axis (pos 0) (pos 4095); y = axis (pos 0) (pos 4095); width = 1080; height = 2400; rotation = r }

pub as_it_is : pixel (phone R0) (pos 2048) (pos 1024) ≡ at 540 600
as_it_is = refl

pub turned_by_90 : pixel (phone R90) (pos 2048) (pos 1024) ≡ at 600 539
turned_by_90 = refl

pub turned_by_180 : pixel (phone R180) (pos 2048) (pos 1024) ≡ at 539 1799
turned_by_180 = refl

pub turned_by_270 : pixel (phone R270) (pos 2048) (pos 1024) ≡ at 1799 540
turned_by_270 = refl

-- the greatest position is the last pixel, and what is outside the axis is its nearest position
pub last_position : pixel (phone R0) (pos 4095) (pos 5000) ≡ at 1079 2399
last_position = refl

pub below_the_axis : pixel (phone R0) (negsuc 6) (pos 0) ≡ at 0 0
below_the_axis = refl

-- the whole range of 32-bit numbers
pub widest_axis : natural (axis (negsuc 2147483647) (pos 2147483647)) 1080 (pos 2147483647) ≡ 1079
widest_axis = refl

pub axis_without_positions : can_cook (axis (pos 5) (pos 4)) (axis (pos 0) (pos 0)) 1080 2400 ≡ false
axis_without_positions = refl

pub display_without_pixels : can_cook (axis (pos 0) (pos 0)) (axis (pos 0) (pos 0)) 0 2400 ≡ false
display_without_pixels = refl

-- ---- packets of device 1

abbrev finger : ℕ → ℕ → Pointer
finger i x = record { id = i; at = at x 0 }

abbrev motion : MotionAction → ℕ → List Pointer → Motion
motion action index ps = record { device = 1; action = action; index = index; flags = 0; pointers = ps }

-- no id is cancelled, and these are
abbrev none : ℕ → Bool
none i = false

abbrev these : List ℕ → ℕ → Bool
these is i = list_any (λ j. nat_eq i j) is

-- a motion with FLAG_CANCELED
abbrev flagged : MotionAction → ℕ → List Pointer → Motion
flagged action index ps = record { device = 1; action = action; index = index; flags = 32; pointers = ps }

pub two_at_once : gesture 1 none [] (finger 0 100 ∷ finger 1 300 ∷ [])
    ≡ motion Down 0 (finger 0 100 ∷ []) ∷ motion PointerDown 1 (finger 0 100 ∷ finger 1 300 ∷ []) ∷ []
two_at_once = refl

pub one_between : gesture 1 none (finger 0 0 ∷ finger 2 20 ∷ []) (finger 0 0 ∷ finger 1 10 ∷ finger 2 20 ∷ [])
    ≡ motion PointerDown 1 (finger 0 0 ∷ finger 1 10 ∷ finger 2 20 ∷ []) ∷ []
one_between = refl

-- the same fingers make one Move, also where nothing moved
pub nothing_moved : gesture 1 none (finger 0 100 ∷ []) (finger 0 100 ∷ []) ≡ motion Move 0 (finger 0 100 ∷ []) ∷ []
nothing_moved = refl

pub nothing_down : gesture 1 none [] [] ≡ []
nothing_down = refl

-- a finger that goes up is at its last place beside the others at their new ones, and these move
pub up_and_move : gesture 1 none (finger 0 100 ∷ finger 1 300 ∷ []) (finger 1 310 ∷ [])
    ≡ motion PointerUp 0 (finger 0 100 ∷ finger 1 310 ∷ []) ∷ motion Move 0 (finger 1 310 ∷ []) ∷ []
up_and_move = refl

-- they don't where none has another pixel
pub up_alone : gesture 1 none (finger 0 100 ∷ finger 1 300 ∷ []) (finger 1 300 ∷ []) ≡ motion PointerUp 0 (finger 0 100 ∷ finger 1 300 ∷ []) ∷ []
up_alone = refl

-- ups come first, and a gesture ends where no finger is left
pub another_finger : gesture 1 none (finger 0 100 ∷ []) (finger 1 100 ∷ []) ≡ motion Up 0 (finger 0 100 ∷ []) ∷ motion Down 0 (finger 1 100 ∷ []) ∷ []
another_finger = refl

pub ups_move_downs : gesture 1 none (finger 0 0 ∷ finger 1 10 ∷ finger 3 30 ∷ []) (finger 1 11 ∷ finger 2 20 ∷ finger 4 40 ∷ [])
    ≡ motion PointerUp 0 (finger 0 0 ∷ finger 1 11 ∷ finger 3 30 ∷ [])
    ∷ motion PointerUp 1 (finger 1 11 ∷ finger 3 30 ∷ [])
    ∷ motion Move 0 (finger 1 11 ∷ [])
    ∷ motion PointerDown 1 (finger 1 11 ∷ finger 2 20 ∷ [])
    ∷ motion PointerDown 2 (finger 1 11 ∷ finger 2 20 ∷ finger 4 40 ∷ [])
    ∷ []
ups_move_downs = refl

-- ---- packets whose pointers only moved

abbrev raw : ℕ → ℕ → Held
raw i x = record { id = i; x = pos x; y = pos 1024 }

pub ids_in_order : held_ids (raw 0 0 ∷ raw 3 2048 ∷ []) ≡ 0 ∷ 3 ∷ []
ids_in_order = refl

pub move_of_two : move_of 1 (finger 0 100 ∷ finger 3 300 ∷ []) ≡ motion Move 0 (finger 0 100 ∷ finger 3 300 ∷ []) ∷ []
move_of_two = refl

pub move_of_none : move_of 1 [] ≡ []
move_of_none = refl

-- pointer 3 goes from raw 2048 to 4095, and pointer 0 stays: one Move of both
pub one_of_two_moves : gesture 1 none (placed_all (phone R0) (raw 0 0 ∷ raw 3 2048 ∷ [])) (placed_all (phone R0) (raw 0 0 ∷ raw 3 4095 ∷ []))
    ≡ motion Move 0 (record { id = 0; at = at 0 600 } ∷ record { id = 3; at = at 1079 600 } ∷ []) ∷ []
one_of_two_moves = refl

-- ---- pointers that are cancelled

-- one of two becomes a palm, and the other moves
pub one_cancelled : gesture 1 (these (1 ∷ [])) (finger 0 100 ∷ finger 1 300 ∷ []) (finger 0 110 ∷ [])
    ≡ flagged PointerUp 1 (finger 0 110 ∷ finger 1 300 ∷ []) ∷ motion Move 0 (finger 0 110 ∷ []) ∷ []
one_cancelled = refl

-- the last one becomes a palm
pub last_cancelled : gesture 1 (these (0 ∷ [])) (finger 0 100 ∷ []) [] ≡ motion Cancel 0 (finger 0 100 ∷ []) ∷ []
last_cancelled = refl

-- two of three do, in one packet
pub two_cancelled : gesture 1 (these (0 ∷ 2 ∷ [])) (finger 0 0 ∷ finger 1 10 ∷ finger 2 20 ∷ []) (finger 1 10 ∷ [])
    ≡ flagged PointerUp 0 (finger 0 0 ∷ finger 1 10 ∷ finger 2 20 ∷ []) ∷ flagged PointerUp 1 (finger 1 10 ∷ finger 2 20 ∷ []) ∷ []
two_cancelled = refl

-- one does while another lifts: only what was cancelled says so
pub cancelled_beside_an_up : gesture 1 (these (0 ∷ [])) (finger 0 0 ∷ finger 1 10 ∷ []) []
    ≡ flagged PointerUp 0 (finger 0 0 ∷ finger 1 10 ∷ []) ∷ motion Up 0 (finger 1 10 ∷ []) ∷ []
cancelled_beside_an_up = refl

pub up_beside_a_cancelled : gesture 1 (these (1 ∷ [])) (finger 0 0 ∷ finger 1 10 ∷ []) []
    ≡ motion PointerUp 0 (finger 0 0 ∷ finger 1 10 ∷ []) ∷ motion Cancel 0 (finger 1 10 ∷ []) ∷ []
up_beside_a_cancelled = refl

-- the last one becomes a palm, and a new finger comes down in the same packet
pub cancel_before_a_down : gesture 1 (these (0 ∷ [])) (finger 0 100 ∷ []) (finger 1 300 ∷ [])
    ≡ motion Cancel 0 (finger 0 100 ∷ []) ∷ motion Down 0 (finger 1 300 ∷ []) ∷ []
cancel_before_a_down = refl
