-- Worked examples of a wall: window 1 is on the left, and a wall of display 0, which has the number 65, on the right. The channels 1
-- and 2 can take input.
use Rattle.std.specs.Prelude.{ℕ, ◌≡◌, List, [], ◌∷◌, Some, refl}
use Rattle.input_types.specs.declared.motion.Motion.{Motion}
use Rattle.input_types.specs.declared.motion.MotionAction.TheVariants.{Down, Move, PointerDown}
use Rattle.window_snapshot.specs.declared.window.Window.{Window}
use Rattle.window_snapshot.specs.Mask.{mask_has}
use Rattle.window_snapshot.specs.Walls.{reaches}
use Rattle.routing_rules.specs.declared.choice.Row.TheVariants.{First, Unsplit, Split}
use Rattle.routing_rules.specs.Choice.{choice_at}
use Rattle.routing_rules.specs.Given.{given, taken}
use Rattle.routing_rules.specs.Outgoing.{outgoing}
use Rattle.routing_rules.specs.Pairs.{Pair}
use Rattle.routing_rules.specs.Scene.{Scene, Moves}
use Rattle.routing_rules.specs.Taking.{Nothing}
use Rattle.routing_rules.proofs.Worked.{window, at, motion, pair, scene}

-- the channels 1 and 2 are live, and the device is on display 0
abbrev with_channels : Scene → Scene
with_channels s = record s { reach = λ d. reaches (record { channels = 3; display = 0 }); able = mask_has 3 }

-- the scene with these flags of window 1 and of the wall; window 2 is behind both
abbrev beside_a_wall : (left wall : ℕ) → List Pair → Scene
beside_a_wall l w qs =
    with_channels
    (scene (window 1 l 0 0 540 2000 ∷ window 65 w 540 0 1080 2000 ∷ window 2 0 0 0 1080 2400 ∷ []) qs (at 0 100 200 ∷ []))

-- a first finger that goes down on the wall
abbrev first_on_it : Scene → List Pair
first_on_it s = given s (Moves (motion Down 0 (at 0 700 400 ∷ [])))

the_wall_is_chosen : choice_at (beside_a_wall 0 0 []) 1 (at 0 700 400).at ≡ record { window = Some 65; row = First }
the_wall_is_chosen = refl

and_nobody_is_given_the_finger : first_on_it (beside_a_wall 0 0 []) ≡ []
and_nobody_is_given_the_finger = refl

nobody_is_sent_it : outgoing (beside_a_wall 0 0 []) (Moves (motion Down 0 (at 0 700 400 ∷ []))) 2 1 ≡ []
nobody_is_sent_it = refl

-- 1 is NOT_TOUCHABLE
a_wall_that_cannot_be_touched_lets_it_through : first_on_it (beside_a_wall 0 1 []) ≡ pair 2 0 ∷ []
a_wall_that_cannot_be_touched_lets_it_through = refl

-- pointer 1 goes down on the wall while window 1 holds pointer 0
abbrev second : Motion
second = motion PointerDown 1 (at 0 100 200 ∷ at 1 700 400 ∷ [])

the_wall_splits_a_gesture : choice_at (beside_a_wall 0 0 (pair 1 0 ∷ [])) 1 (at 1 700 400).at ≡ record { window = Some 65; row = Split }
the_wall_splits_a_gesture = refl

the_holder_is_sent_a_move : outgoing (beside_a_wall 0 0 (pair 1 0 ∷ [])) (Moves second) 1 1 ≡ motion Move 0 (at 0 100 200 ∷ []) ∷ []
the_holder_is_sent_a_move = refl

-- 32 is PREVENT_SPLITTING
a_holder_that_prevents_splitting_gets_it : given (beside_a_wall 32 0 (pair 1 0 ∷ [])) (Moves second) ≡ pair 1 1 ∷ []
a_holder_that_prevents_splitting_gets_it = refl

a_wall_prevents_no_splitting : given (beside_a_wall 0 32 (pair 1 0 ∷ [])) (Moves second) ≡ []
a_wall_prevents_no_splitting = refl

-- pointer 0 moves onto the wall from window 1, which has the flag SLIPPERY, 8
abbrev onto_it : Motion
onto_it = motion Move 0 (at 0 700 400 ∷ [])

nothing_slips_to_a_wall : taken (beside_a_wall 8 0 (pair 1 0 ∷ [])) (Moves onto_it) ≡ Nothing
nothing_slips_to_a_wall = refl

-- 16 is SPY: a spy of channel 1 over all in front of the wall
a_spy_in_front_of_it_gets_the_finger :
    first_on_it (with_channels (scene (window 1 16 0 0 1080 2400 ∷ window 65 0 540 0 1080 2000 ∷ []) [] [])) ≡ pair 1 0 ∷ []
a_spy_in_front_of_it_gets_the_finger = refl
