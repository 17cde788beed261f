-- Worked examples of what lies over a window, on the display of Blocked: fingers go down at 540,1200 and at 100,100.
use Rattle.std.specs.Prelude.{ℕ, ◌≡◌, true, List, [], ◌∷◌, refl}
use Rattle.input_types.specs.declared.motion.MotionAction.TheVariants.{Down, Move, PointerDown, Up, Cancel, Outside}
use Rattle.window_snapshot.specs.declared.occlusion.Occlusion.TheVariants.{Block, Allow}
use Rattle.window_snapshot.specs.declared.window.Window.{Window}
use Rattle.routing_rules.specs.Cover.{Cover, flags_of, under}
use Rattle.routing_rules.specs.Marks.{Mark, covered}
use Rattle.routing_rules.specs.Scene.{Step, Moves}
use Rattle.routing_rules.specs.Given.{mark}
use Rattle.routing_rules.proofs.Worked.{window, at, motion, pair, scene, owned}
use Rattle.routing_rules.proofs.Blocked.{over, over_two}

-- the first finger goes down
abbrev first : Step
first = Moves (motion Down 0 (at 0 540 1200 ∷ []))

-- what lies over a window for device 1 once the first finger went down
abbrev under_it : List Window → ℕ → Cover
under_it windows w = covered (mark (scene windows [] []) first ∷ []) w 1

a_window_that_allows_touches_obscures : flags_of (under_it (over 1 1 Allow) 2) ≡ 1
a_window_that_allows_touches_obscures = refl

one_of_the_same_owner_does_not : flags_of (under_it (over 2 1 Block) 2) ≡ 0
one_of_the_same_owner_does_not = refl

windows_whose_opacity_decides_obscure_what_they_do_not_block : flags_of (under_it (over_two 1 50) 3) ≡ 1
windows_whose_opacity_decides_obscure_what_they_do_not_block = refl

a_spy_in_front_has_nothing_over_it : flags_of (under_it (over 1 16 Block) 1) ≡ 0
a_spy_in_front_has_nothing_over_it = refl

-- window 1 of owner 1, with the frame 0,0 to 540,1200, lets touches through to window 2 of owner 2
abbrev corner : List Window
corner = owned 1 100 Allow (window 1 1 0 0 540 1200) ∷ owned 2 100 Block (window 2 0 0 0 1080 2400) ∷ []

it_overlaps_the_window_and_does_not_hold_the_point : flags_of (under_it corner 2) ≡ 2
it_overlaps_the_window_and_does_not_hold_the_point = refl

-- a second finger goes down under window 1
abbrev second : Step
second = Moves (motion PointerDown 1 (at 0 540 1200 ∷ at 1 100 100 ∷ []))

-- the marks of both
abbrev two : List Mark
two = mark (scene corner (pair 2 0 ∷ []) (at 0 540 1200 ∷ [])) second ∷ mark (scene corner [] []) first ∷ []

the_second_finger_adds_to_what_the_first_found : flags_of (covered two 2 1) ≡ 3
the_second_finger_adds_to_what_the_first_found = refl

-- and then a Move
abbrev moved : List Mark
moved = mark (scene corner (pair 2 0 ∷ pair 2 1 ∷ []) (at 0 540 1200 ∷ at 1 100 100 ∷ [])) (Moves (motion Move 0 (at 0 600 1300 ∷ at 1 700 1300 ∷ []))) ∷ two

both_stay_at_a_move : flags_of (covered moved 2 1) ≡ 3
both_stay_at_a_move = refl

-- another device has its own
nothing_is_found_for_another_device : flags_of (covered two 2 2) ≡ 0
nothing_is_found_for_another_device = refl

-- both fingers go up, and the first comes again
abbrev again : List Mark
again =
    mark (scene corner [] []) first ∷ mark (scene corner (pair 2 0 ∷ []) (at 0 540 1200 ∷ [])) (Moves (motion Up 0 (at 0 540 1200 ∷ [])))
    ∷ mark (scene corner (pair 2 0 ∷ []) (at 0 540 1200 ∷ [])) (Moves (motion Cancel 0 (at 1 100 100 ∷ []))) ∷ two

a_new_gesture_begins_anew : flags_of (covered again 2 1) ≡ 2
a_new_gesture_begins_anew = refl

-- a finger slides off a slippery window of owner 1 (8 is SLIPPERY), over which window 3 of owner 3 lies, onto window 2 of
-- owner 2, which that window touches only at its top row
abbrev slides : List Window
slides =
    owned 3 100 Allow (window 3 1 0 0 1080 201) ∷ owned 1 100 Block (window 1 8 0 0 1080 200)
    ∷ owned 2 100 Block (window 2 0 0 200 1080 2400) ∷ []

-- it goes down, and slides
abbrev slid : List Mark
slid =
    mark (scene slides (pair 1 0 ∷ []) (at 0 540 100 ∷ [])) (Moves (motion Move 0 (at 0 540 1200 ∷ [])))
    ∷ mark (scene slides [] []) (Moves (motion Down 0 (at 0 540 100 ∷ []))) ∷ []

the_window_that_it_leaves_was_obscured : flags_of (covered slid 1 1) ≡ 1
the_window_that_it_leaves_was_obscured = refl

the_window_that_it_comes_to_begins_with_its_own : flags_of (covered slid 2 1) ≡ 2
the_window_that_it_comes_to_begins_with_its_own = refl

-- 0x1 is FLAG_WINDOW_IS_OBSCURED, 0x2 FLAG_WINDOW_IS_PARTIALLY_OBSCURED and 0x20 FLAG_CANCELED
abbrev both_bits : Cover
both_bits = record { obscured = true; partly = true }

a_move_has_both : (under both_bits (motion Move 0 (at 0 540 1200 ∷ []))).flags ≡ 3
a_move_has_both = refl

a_touch_outside_has_none : (under both_bits (motion Outside 0 (at 0 540 1200 ∷ []))).flags ≡ 0
a_touch_outside_has_none = refl
