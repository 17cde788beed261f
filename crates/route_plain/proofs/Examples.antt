-- Worked examples: gestures turn by turn. They compute.
use Rattle.std.specs.Prelude.{◌≡◌, ℕ, List, [], ◌∷◌, refl}
use Rattle.input_types.specs.declared.motion.MotionAction.TheVariants.{Down, Up, Move, Cancel, PointerDown, PointerUp}
use Rattle.input_types.specs.declared.motion.Motion.{Motion}
use Rattle.window_snapshot.specs.declared.window.Window.{Window}
use Rattle.routing_rules.proofs.Worked.{window, at, motion, cancelled}
use Rattle.route_plain.specs.declared.turn.Said.{Said}
use Rattle.route_plain.specs.declared.turn.Turn.{Turn}
use Rattle.route_plain.specs.declared.turn.Turn.TheVariants.{Pointers, Pilfer}
use Rattle.route_plain.specs.State.{State, fresh, scene_before}
use Rattle.route_plain.specs.Route.{said_up_to, said_at, step_of, state_after}

-- the state after one more turn with these windows, when the channels 1 and 2 are live and those of the mask are able
abbrev next : List Window → ℕ → Turn → State → State
next ws able t st = state_after (scene_before st ws 3 able) (step_of t ws) st

-- the state after some turns, newest first
abbrev after_turns : List Window → ℕ → List Turn → State
after_turns ws able [] = fresh
after_turns ws able (t ∷ past) = next ws able t (after_turns ws able past)

-- what is said at a turn after others
abbrev said_with : List Window → ℕ → Turn → State → List Said
said_with ws able t st = said_at (scene_before st ws 3 able) (step_of t ws)

abbrev said_after : List Window → ℕ → List Turn → Turn → List Said
said_after ws able past t = said_with ws able t (after_turns ws able past)

abbrev to : ℕ → Motion → Said
to c m = record { channel = c; motion = m }

-- a slippery strip, 1, above a window, 2; 8 is SLIPPERY
abbrev strip : List Window
strip = window 1 8 0 0 1080 200 ∷ window 2 0 0 200 1080 2400 ∷ []

abbrev down : Turn
down = Pointers (motion Down 0 (at 0 500 100 ∷ []))

abbrev slide : Turn
slide = Pointers (motion Move 0 (at 0 500 300 ∷ []))

a_pointer_slips :
    said_after strip 3 (down ∷ []) slide
    ≡ to 1 (motion Cancel 0 (at 0 500 100 ∷ [])) ∷ to 2 (motion Down 0 (at 0 500 300 ∷ [])) ∷ []
unfolding said_up_to
a_pointer_slips = refl

of_two_fingers_none_slips :
    said_after strip 3 (Pointers (motion PointerDown 1 (at 0 500 100 ∷ at 1 600 100 ∷ [])) ∷ down ∷ [])
    (Pointers (motion Move 0 (at 0 500 300 ∷ at 1 600 100 ∷ [])))
    ≡ to 1 (motion Move 0 (at 0 500 300 ∷ at 1 600 100 ∷ [])) ∷ []
unfolding said_up_to
of_two_fingers_none_slips = refl

nothing_slips_to_an_unresponsive_window : said_after strip 1 (down ∷ []) slide ≡ to 1 (motion Move 0 (at 0 500 300 ∷ [])) ∷ []
unfolding said_up_to
nothing_slips_to_an_unresponsive_window = refl

-- a spy over the upper half, 1, in front of an app, 2; 16 is SPY
abbrev spied : List Window
spied = window 1 16 0 0 1080 1200 ∷ window 2 0 0 0 1080 2400 ∷ []

-- a finger on both, then one on the app; and then the spy pilfers
abbrev two_fingers : List Turn
two_fingers = Pointers (motion PointerDown 1 (at 0 100 100 ∷ at 1 100 2000 ∷ [])) ∷ Pointers (motion Down 0 (at 0 100 100 ∷ [])) ∷ []

a_pilfer_takes_a_part :
    said_after spied 3 two_fingers (Pilfer 1 1) ≡ to 2 (cancelled PointerUp 0 (at 0 100 100 ∷ at 1 100 2000 ∷ [])) ∷ []
unfolding said_up_to
a_pilfer_takes_a_part = refl

abbrev lift : Turn
lift = Pointers (motion PointerUp 0 (at 0 100 100 ∷ at 1 100 2000 ∷ []))

then_each_has_its_own :
    said_after spied 3 (Pilfer 1 1 ∷ two_fingers) lift ≡ to 1 (motion Up 0 (at 0 100 100 ∷ [])) ∷ to 2 (motion Move 0 (at 1 100 2000 ∷ [])) ∷ []
unfolding said_up_to
then_each_has_its_own = refl

a_new_finger_goes_to_the_app :
    said_after spied 3 (lift ∷ Pilfer 1 1 ∷ two_fingers) (Pointers (motion PointerDown 0 (at 0 200 2000 ∷ at 1 100 2000 ∷ [])))
    ≡ to 2 (motion PointerDown 0 (at 0 200 2000 ∷ at 1 100 2000 ∷ [])) ∷ []
unfolding said_up_to
a_new_finger_goes_to_the_app = refl

-- Two windows side by side with nothing below them. Window 1 gets fingers 0 and 2 and window 2 finger 1; then finger 0
-- lifts, and a finger goes down where nothing is. Window 1 began first, although finger 1 is older than what window 1
-- still has.
abbrev side_by_side : List Window
side_by_side = window 1 0 0 0 540 2000 ∷ window 2 0 540 0 1080 2000 ∷ []

the_earliest_holder_gets_it :
    said_after side_by_side 3
    (Pointers (motion PointerUp 0 (at 0 100 100 ∷ at 1 600 100 ∷ at 2 200 100 ∷ []))
    ∷ Pointers (motion PointerDown 2 (at 0 100 100 ∷ at 1 600 100 ∷ at 2 200 100 ∷ []))
    ∷ Pointers (motion PointerDown 1 (at 0 100 100 ∷ at 1 600 100 ∷ []))
    ∷ Pointers (motion Down 0 (at 0 100 100 ∷ []))
    ∷ [])
    (Pointers (motion PointerDown 0 (at 0 100 2200 ∷ at 1 600 100 ∷ at 2 200 100 ∷ [])))
    ≡ to 1 (motion PointerDown 0 (at 0 100 2200 ∷ at 2 200 100 ∷ [])) ∷ to 2 (motion Move 0 (at 1 600 100 ∷ [])) ∷ []
unfolding said_up_to
the_earliest_holder_gets_it = refl

-- One window over all of the display holds two fingers. The second becomes a palm, and then the last one.
abbrev whole : List Window
whole = window 1 0 0 0 1080 2400 ∷ []

abbrev two_on_one : List Turn
two_on_one = Pointers (motion PointerDown 1 (at 0 100 200 ∷ at 1 300 400 ∷ [])) ∷ Pointers (motion Down 0 (at 0 100 200 ∷ [])) ∷ []

abbrev second_palm : Turn
second_palm = Pointers (cancelled PointerUp 1 (at 0 100 200 ∷ at 1 300 400 ∷ []))

a_finger_of_two_becomes_a_palm :
    said_after whole 1 two_on_one second_palm ≡ to 1 (cancelled PointerUp 1 (at 0 100 200 ∷ at 1 300 400 ∷ [])) ∷ []
unfolding said_up_to
a_finger_of_two_becomes_a_palm = refl

the_last_finger_becomes_a_palm :
    said_after whole 1 (second_palm ∷ two_on_one) (Pointers (motion Cancel 0 (at 0 100 200 ∷ []))) ≡ to 1 (motion Cancel 0 (at 0 100 200 ∷ [])) ∷ []
unfolding said_up_to
the_last_finger_becomes_a_palm = refl

nothing_moves_after_the_last_palm :
    said_after whole 1 (Pointers (motion Cancel 0 (at 0 100 200 ∷ [])) ∷ second_palm ∷ two_on_one) (Pointers (motion Move 0 [])) ≡ []
unfolding said_up_to
nothing_moves_after_the_last_palm = refl

-- a finger on each of two windows, of which that on the right one becomes a palm: its window is sent a Cancel, the
-- other one a Move
a_palm_is_its_windows_last :
    said_after side_by_side 3
    (Pointers (motion PointerDown 1 (at 0 100 200 ∷ at 1 700 400 ∷ [])) ∷ Pointers (motion Down 0 (at 0 100 200 ∷ [])) ∷ [])
    (Pointers (cancelled PointerUp 1 (at 0 100 200 ∷ at 1 700 400 ∷ [])))
    ≡ to 1 (motion Move 0 (at 0 100 200 ∷ [])) ∷ to 2 (motion Cancel 0 (at 1 700 400 ∷ [])) ∷ []
unfolding said_up_to
a_palm_is_its_windows_last = refl
