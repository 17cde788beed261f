-- Worked examples of windows of other owners over a window: a display of 1080 by 2400 pixels, and a finger that goes down at 540,1200.
-- Window 1 cannot be touched (1 is NOT_TOUCHABLE) unless an example says otherwise.
use Rattle.std.specs.Prelude.{ℕ, ◌≡◌, List, [], ◌∷◌, refl}
use Rattle.input_types.specs.declared.motion.MotionAction.TheVariants.{Move}
use Rattle.window_snapshot.specs.declared.occlusion.Occlusion.{Occlusion}
use Rattle.window_snapshot.specs.declared.occlusion.Occlusion.TheVariants.{Block, Opacity, Allow}
use Rattle.window_snapshot.specs.declared.window.Window.{Window}
use Rattle.routing_rules.specs.Scene.{Scene, Moves}
use Rattle.routing_rules.specs.Choice.{takers, chosen}
use Rattle.routing_rules.specs.Outgoing.{outgoing}
use Rattle.routing_rules.proofs.Worked.{window, at, motion, pair, scene, owned}
use Rattle.std.specs.Prelude.{Option, Some}

-- the windows that get a finger there
abbrev given_to : List Window → List ℕ
given_to windows = takers (scene windows [] []) 1 (at 0 540 1200).at

-- window 1, with these flags, over window 2 of owner 2
abbrev pub over : (owner flags : ℕ) → Occlusion → List Window
over o f m = owned o 100 m (window 1 f 0 0 1080 2400) ∷ owned 2 100 Block (window 2 0 0 0 1080 2400) ∷ []

nobody_gets_a_finger_that_is_blocked : given_to (over 1 1 Block) ≡ []
nobody_gets_a_finger_that_is_blocked = refl

and_the_blocked_window_stays_the_chosen_one : chosen (scene (over 1 1 Block) [] []) 1 (at 0 540 1200).at ≡ Some 2
and_the_blocked_window_stays_the_chosen_one = refl

a_window_that_allows_touches_lets_them_through : given_to (over 1 1 Allow) ≡ 2 ∷ []
a_window_that_allows_touches_lets_them_through = refl

a_window_of_the_same_owner_does_not_block : given_to (over 2 1 Block) ≡ 2 ∷ []
a_window_of_the_same_owner_does_not_block = refl

-- 64 is TRUSTED_OVERLAY
a_trusted_overlay_does_not_block : given_to (over 1 65 Block) ≡ 2 ∷ []
a_trusted_overlay_does_not_block = refl

-- 16 is SPY
a_spy_that_blocks_gets_the_finger_alone : given_to (over 1 16 Block) ≡ 1 ∷ []
a_spy_that_blocks_gets_the_finger_alone = refl

-- two windows whose opacity decides, the first one of owner 1 and 60 per cent, over window 3 of owner 2
abbrev pub over_two : (owner opacity : ℕ) → List Window
over_two o p =
    owned 1 60 Opacity (window 1 1 0 0 1080 2400) ∷ owned o p Opacity (window 2 1 0 0 1080 2400)
    ∷ owned 2 100 Block (window 3 0 0 0 1080 2400) ∷ []

a_fifth_of_the_light_is_enough : given_to (over_two 1 50) ≡ 3 ∷ []
a_fifth_of_the_light_is_enough = refl

less_is_not : given_to (over_two 1 51) ≡ []
less_is_not = refl

two_owners_are_not_added_up : given_to (over_two 3 51) ≡ 3 ∷ []
two_owners_are_not_added_up = refl

-- a finger slides off a slippery window of owner 1 (8 is SLIPPERY) onto window 2 of owner 2, over which window 3 of owner 3
-- lies, which cannot be touched and has this occlusion
abbrev slides : Occlusion → Scene
slides m =
    scene (owned 1 100 Block (window 1 8 0 0 1080 200) ∷ owned 3 100 m (window 3 1 0 200 1080 2400)
    ∷ owned 2 100 Block (window 2 0 0 200 1080 2400) ∷ []) (pair 1 0 ∷ []) (at 0 540 100 ∷ [])

nothing_slips_to_a_window_that_is_blocked : outgoing (slides Block) (Moves (motion Move 0 (at 0 540 1200 ∷ []))) 1 1 ≡ motion Move 0 (at 0 540 1200 ∷ []) ∷ []
nothing_slips_to_a_window_that_is_blocked = refl

it_is_sent_nothing : outgoing (slides Block) (Moves (motion Move 0 (at 0 540 1200 ∷ []))) 2 1 ≡ []
it_is_sent_nothing = refl
