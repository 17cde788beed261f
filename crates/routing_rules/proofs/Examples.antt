-- Worked examples, each one step of a gesture. Each is checked by computation.
use Rattle.std.specs.Prelude.{ℕ, false, not, ◌==◌, ◌≡◌, List, [], ◌∷◌, filter, refl}
use Rattle.input_types.specs.declared.motion.MotionAction.TheVariants.{Down, Move, Cancel, Outside, PointerDown, PointerUp}
use Rattle.input_types.specs.declared.motion.Motion.{Motion}
use Rattle.input_types.specs.declared.pointer.Pointer.{Pointer}
use Rattle.routing_rules.specs.Pairs.{Pair}
use Rattle.routing_rules.specs.Scene.{Scene, Step, Moves, Pilfers, Shows, Removes, stays}
use Rattle.routing_rules.specs.Choice.{takers}
use Rattle.routing_rules.specs.Given.{mark}
use Rattle.routing_rules.specs.Outgoing.{outgoing, after}
use Rattle.routing_rules.proofs.Worked.{window, at, motion, cancelled, pair, scene, on, on_two_displays}

-- Two windows side by side, 1 on the left and 2 on the right. A finger is down on the left one; a second goes down on the right.
abbrev side_by_side : ℕ → Scene
side_by_side flags =
    scene (window 1 flags 0 0 540 2400 ∷ window 2 0 540 0 1080 2400 ∷ []) (pair 1 0 ∷ []) (at 0 100 200 ∷ [])

abbrev second_finger : Motion
second_finger = motion PointerDown 1 (at 0 100 200 ∷ at 1 700 400 ∷ [])

a_second_finger_goes_down_in_its_own_window : outgoing (side_by_side 0) (Moves second_finger) 2 1 ≡ motion Down 0 (at 1 700 400 ∷ []) ∷ []
a_second_finger_goes_down_in_its_own_window = refl

the_other_window_is_sent_a_move : outgoing (side_by_side 0) (Moves second_finger) 1 1 ≡ motion Move 0 (at 0 100 200 ∷ []) ∷ []
the_other_window_is_sent_a_move = refl

-- 32 is PREVENT_SPLITTING
a_holder_that_prevents_splitting_gets_it : outgoing (side_by_side 32) (Moves second_finger) 1 1 ≡ second_finger ∷ []
a_holder_that_prevents_splitting_gets_it = refl

and_the_touched_window_gets_nothing : outgoing (side_by_side 32) (Moves second_finger) 2 1 ≡ []
and_the_touched_window_gets_nothing = refl

where_nothing_is_touched_the_earliest_holder_is_chosen :
    takers (scene (window 2 0 540 0 1080 2000 ∷ window 1 0 0 0 540 2000 ∷ []) (pair 2 1 ∷ pair 1 2 ∷ []) []) 1 (at 0 100 2200).at ≡ 1 ∷ []
where_nothing_is_touched_the_earliest_holder_is_chosen = refl

-- A gesture begins in front of window 3: window 1 watches for touches outside of it (4 is WATCH_OUTSIDE_TOUCH), and so does
-- window 4, which lies behind.
abbrev watched : Scene
watched = scene (window 1 4 0 0 100 100 ∷ window 3 0 0 100 1080 2000 ∷ window 4 4 0 0 1080 2000 ∷ []) [] []

a_watcher_in_front_is_sent_of_a_touch_outside : outgoing watched (Moves (motion Down 0 (at 0 500 500 ∷ []))) 1 1 ≡ motion Outside 0 (at 0 500 500 ∷ []) ∷ []
a_watcher_in_front_is_sent_of_a_touch_outside = refl

a_watcher_behind_is_not : outgoing watched (Moves (motion Down 0 (at 0 500 500 ∷ []))) 4 1 ≡ []
a_watcher_behind_is_not = refl

a_touch_of_nothing_is_sent_to_nobody : outgoing watched (Moves (motion Down 0 (at 0 500 2200 ∷ []))) 1 1 ≡ []
a_touch_of_nothing_is_sent_to_nobody = refl

-- A finger moves off a slippery window, 1, onto window 2 (8 is SLIPPERY).
abbrev slippery : List Pointer → Scene
slippery = scene (window 1 8 0 0 1080 200 ∷ window 2 0 0 200 1080 2400 ∷ []) (pair 1 0 ∷ pair 1 1 ∷ [])

abbrev slide : Motion
slide = motion Move 0 (at 0 500 300 ∷ [])

the_slippery_window_is_sent_a_cancel_at_the_last_place :
    outgoing (slippery (at 0 500 100 ∷ [])) (Moves slide) 1 1 ≡ motion Cancel 0 (at 0 500 100 ∷ []) ∷ []
the_slippery_window_is_sent_a_cancel_at_the_last_place = refl

the_window_that_it_slips_to_is_sent_a_down : outgoing (slippery (at 0 500 100 ∷ [])) (Moves slide) 2 1 ≡ motion Down 0 (at 0 500 300 ∷ []) ∷ []
the_window_that_it_slips_to_is_sent_a_down = refl

with_two_fingers_nothing_slips :
    outgoing (slippery (at 0 500 100 ∷ at 1 600 100 ∷ [])) (Moves (motion Move 0 (at 0 500 300 ∷ at 1 600 100 ∷ []))) 1 1
    ≡ motion Move 0 (at 0 500 300 ∷ at 1 600 100 ∷ []) ∷ []
with_two_fingers_nothing_slips = refl

nothing_slips_to_a_window_that_is_not_able :
    outgoing (record (slippery (at 0 500 100 ∷ [])) { able = λ w. not (w == 2) }) (Moves slide) 2 1 ≡ []
nothing_slips_to_a_window_that_is_not_able = refl

-- Window 1 is a spy in front of window 2 (16 is SPY). Window 2 holds three pointers, the spy the first and the third.
abbrev spied : Scene
spied =
    scene (window 1 16 0 0 1080 1200 ∷ window 2 0 0 0 1080 2400 ∷ [])
    (pair 1 0 ∷ pair 2 0 ∷ pair 2 1 ∷ pair 1 2 ∷ pair 2 2 ∷ []) (at 0 1 1 ∷ at 1 2 2 ∷ at 2 3 3 ∷ [])

a_pilfer_of_a_part_is_sent_as_one_cancelled_up_after_the_other :
    outgoing spied (Pilfers 1 1) 2 1
    ≡ cancelled PointerUp 0 (at 0 1 1 ∷ at 1 2 2 ∷ at 2 3 3 ∷ []) ∷ cancelled PointerUp 1 (at 1 2 2 ∷ at 2 3 3 ∷ []) ∷ []
a_pilfer_of_a_part_is_sent_as_one_cancelled_up_after_the_other = refl

the_spy_is_sent_nothing_of_it : outgoing spied (Pilfers 1 1) 1 1 ≡ []
the_spy_is_sent_nothing_of_it = refl

a_spy_that_is_pilfering_gets_the_next_pointer_alone :
    takers (record spied { pilfering = λ w d. w == 1 }) 1 (at 3 500 500).at ≡ 1 ∷ []
a_spy_that_is_pilfering_gets_the_next_pointer_alone = refl

a_spy_gets_it_beside_the_touched_window : takers spied 1 (at 3 500 500).at ≡ 1 ∷ 2 ∷ []
a_spy_gets_it_beside_the_touched_window = refl

what_a_new_snapshot_does_not_name_is_cancelled :
    outgoing spied (Shows (λ w. w == 1)) 2 1 ≡ motion Cancel 0 (at 0 1 1 ∷ at 1 2 2 ∷ at 2 3 3 ∷ []) ∷ []
what_a_new_snapshot_does_not_name_is_cancelled = refl

a_removed_channel_is_sent_nothing : outgoing spied (Removes 2) 2 1 ≡ []
a_removed_channel_is_sent_nothing = refl

-- A palm. Two fingers are down in one window; the second becomes a palm, and then the first.
abbrev two_fingers : List Pair → List Pointer → Scene
two_fingers = scene (window 1 0 0 0 1080 2400 ∷ [])

abbrev palm_of_two : Motion
palm_of_two = cancelled PointerUp 1 (at 0 100 200 ∷ at 1 300 400 ∷ [])

one_of_several_is_cancelled_as_an_up_with_the_flag :
    outgoing (two_fingers (pair 1 0 ∷ pair 1 1 ∷ []) (at 0 100 200 ∷ at 1 300 400 ∷ [])) (Moves palm_of_two) 1 1 ≡ palm_of_two ∷ []
one_of_several_is_cancelled_as_an_up_with_the_flag = refl

abbrev last_palm : Motion
last_palm = motion Cancel 0 (at 0 100 200 ∷ [])

the_last_one_is_cancelled_by_a_cancel : outgoing (two_fingers (pair 1 0 ∷ []) (at 0 100 200 ∷ [])) (Moves last_palm) 1 1 ≡ last_palm ∷ []
the_last_one_is_cancelled_by_a_cancel = refl

a_cancelled_pointer_is_held_no_more :
    let s = two_fingers (pair 1 0 ∷ []) (at 0 100 200 ∷ []) in after s (mark s (Moves last_palm)) 1 1 0 ≡ false
a_cancelled_pointer_is_held_no_more = refl

-- The same where each finger is in a window of its own.
abbrev one_each : Scene
one_each =
    scene (window 1 0 0 0 540 2400 ∷ window 2 0 540 0 1080 2400 ∷ []) (pair 1 0 ∷ pair 2 1 ∷ []) (at 0 100 200 ∷ at 1 700 400 ∷ [])

abbrev palm_on_the_right : Motion
palm_on_the_right = cancelled PointerUp 1 (at 0 100 200 ∷ at 1 700 400 ∷ [])

its_window_is_sent_a_cancel : outgoing one_each (Moves palm_on_the_right) 2 1 ≡ motion Cancel 0 (at 1 700 400 ∷ []) ∷ []
its_window_is_sent_a_cancel = refl

another_window_is_sent_a_move : outgoing one_each (Moves palm_on_the_right) 1 1 ≡ motion Move 0 (at 0 100 200 ∷ []) ∷ []
another_window_is_sent_a_move = refl

-- Two displays of one size. Window 4 is on the second one, and stands in front of window 2 of the first one.
abbrev two_displays : ℕ → List Pair → List Pointer → Scene
two_displays flags qs last =
    on_two_displays (scene (on 1 (window 4 flags 0 0 100 2400) ∷ window 2 0 0 0 1080 2400 ∷ []) qs last)

abbrev finger : Motion
finger = motion Down 0 (at 0 50 500 ∷ [])

a_touch_goes_through_a_window_of_another_display : outgoing (two_displays 0 [] []) (Moves finger) 2 1 ≡ finger ∷ []
a_touch_goes_through_a_window_of_another_display = refl

a_window_of_another_display_is_not_touched : outgoing (two_displays 0 [] []) (Moves finger) 4 1 ≡ []
a_window_of_another_display_is_not_touched = refl

the_device_of_that_display_touches_it :
    outgoing (two_displays 0 [] []) (Moves (record finger { device = 2 })) 4 2 ≡ record finger { device = 2 } ∷ []
the_device_of_that_display_touches_it = refl

a_spy_of_another_display_is_not_sent : outgoing (two_displays 16 [] []) (Moves finger) 4 1 ≡ []
a_spy_of_another_display_is_not_sent = refl

a_watcher_of_another_display_is_not_sent : outgoing (two_displays 4 [] []) (Moves (motion Down 0 (at 0 500 500 ∷ []))) 4 1 ≡ []
a_watcher_of_another_display_is_not_sent = refl

nothing_slips_to_a_window_of_another_display :
    outgoing
    (on_two_displays (scene (window 1 8 0 0 1080 200 ∷ on 1 (window 2 0 0 200 1080 2400) ∷ []) (pair 1 0 ∷ []) (at 0 500 100 ∷ [])))
    (Moves slide) 1 1
    ≡ slide ∷ []
nothing_slips_to_a_window_of_another_display = refl

-- the ids of device 1, of 0 and 1, that a window holds after a step
abbrev held_after : Scene → Step → ℕ → List ℕ
held_after s e w = filter (after s (mark s e) w 1) (0 ∷ 1 ∷ [])

-- In the middle of a gesture a snapshot shows window 2 on the second display.
abbrev held_on_the_first : Scene
held_on_the_first = two_displays 0 (pair 2 0 ∷ pair 2 1 ∷ []) (at 0 500 500 ∷ at 1 600 500 ∷ [])

abbrev moved_away : Step
moved_away = Shows (stays held_on_the_first.windows (on 1 (window 2 0 0 0 1080 2400) ∷ []))

a_window_that_changes_its_display_is_sent_a_cancel :
    outgoing held_on_the_first moved_away 2 1 ≡ motion Cancel 0 (at 0 500 500 ∷ at 1 600 500 ∷ []) ∷ []
a_window_that_changes_its_display_is_sent_a_cancel = refl

it_holds_nothing_then : held_after held_on_the_first moved_away 2 ≡ []
it_holds_nothing_then = refl

what_stays_on_its_display_keeps_its_pointers :
    held_after held_on_the_first (Shows (stays held_on_the_first.windows (window 2 0 0 0 1080 2400 ∷ []))) 2 ≡ 0 ∷ 1 ∷ []
what_stays_on_its_display_keeps_its_pointers = refl
