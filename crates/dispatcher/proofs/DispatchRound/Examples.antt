-- What windows are sent for a Move with which no pointer changes hands, with values written by hand.
use Rattle.std.specs.Prelude.{◌≡◌, ℕ, true, false, List, [], ◌∷◌, Some, None, pos, refl}
use Rattle.input_types.specs.declared.message.Body.TheVariants.{Motion as MotionBody}
use Rattle.input_types.specs.declared.motion.Motion.{Motion}
use Rattle.input_types.specs.declared.motion.MotionAction.TheVariants.{Move}
use Rattle.input_types.specs.declared.pointer.Pointer.{Pointer}
use Rattle.routing_rules.specs.Cover.{with_flags}
use Rattle.touch_state.specs.Touches.{Touches}
use Rattle.dispatcher.specs.WindowCovers.Covers.{CoverTable}
use Rattle.dispatcher.specs.DispatchRound.Steady.{held_by, moved, most_moves}

-- window 1 holds the ids 0 and 2 of device 1, window 2 holds nothing, and window 3 id 1
abbrev touches : List Touches
touches =
    record { device = 1; rows = record { ids = 5; since = 4 } ∷ record { ids = 0; since = 0 } ∷ record { ids = 2; since = 6 } ∷ []; pilferers = 0 } ∷ []

abbrev at : ℕ → Pointer
at i = record { id = i; at = record { x = pos 10; y = pos 20 } }

abbrev move : List Pointer → Motion
move ps = record { device = 1; action = Move; index = 0; flags = 0; pointers = ps }

-- nothing lies over any window, and window 1 is obscured on device 1
abbrev clear_table : CoverTable
clear_table = record { obscured = []; partly = [] }

abbrev over_one : CoverTable
over_one = record { obscured = 1 ∷ []; partly = [] }

its_own : moved clear_table touches (move (at 0 ∷ at 1 ∷ at 2 ∷ [])) 1 ≡ MotionBody (move (at 0 ∷ at 2 ∷ [])) ∷ []
its_own = refl

its_own_obscured : moved over_one touches (move (at 0 ∷ at 1 ∷ at 2 ∷ [])) 1 ≡ MotionBody (with_flags 1 (move (at 0 ∷ at 2 ∷ []))) ∷ []
its_own_obscured = refl

one_of_three : moved clear_table touches (move (at 0 ∷ at 1 ∷ at 2 ∷ [])) 3 ≡ MotionBody (move (at 1 ∷ [])) ∷ []
one_of_three = refl

nothing_held : moved clear_table touches (move (at 0 ∷ at 1 ∷ at 2 ∷ [])) 2 ≡ []
nothing_held = refl

nothing_listed : moved clear_table touches (move (at 0 ∷ at 2 ∷ [])) 3 ≡ []
nothing_listed = refl

holds_some : held_by touches (Some (move (at 1 ∷ []))) 1 ≡ true
holds_some = refl

holds_none : held_by touches (Some (move (at 1 ∷ []))) 2 ≡ false
holds_none = refl

no_motion : most_moves None ≡ 0
no_motion = refl

one_motion : most_moves (Some (move (at 0 ∷ at 1 ∷ []))) ≡ 1
one_motion = refl
