-- Worked examples: gestures over windows, as streams.
use Rattle.std.specs.Prelude.{ℕ, ◌≡◌, List, [], ◌∷◌, ◌++◌, refl}
use Rattle.input_types.specs.declared.motion.MotionAction.TheVariants.{Down, Up, Move, Cancel, Outside, PointerDown, PointerUp}
use Rattle.dispatch_calls.specs.declared.call.Call.{Call}
use Rattle.dispatch_calls.specs.declared.call.Call.TheVariants.{Open, Windows, Tick}
use Rattle.dispatch_history.proofs.Worked.{usual, window, at, motion, moved, says, open_two, stream_of}

-- Two fingers go down on one window, the first moves and then goes up.
abbrev two_fingers : List Call
two_fingers =
    Open usual ∷ Windows 0 (window 1 0 0 0 1080 2400 ∷ []) ∷ []
    ++ moved 1000 Down 0 (at 0 100 200 ∷ []) ++ moved 1000 PointerDown 1 (at 0 100 200 ∷ at 1 300 400 ∷ [])
    ++ moved 2000 Move 0 (at 0 110 200 ∷ at 1 300 400 ∷ []) ++ moved 3000 PointerUp 0 (at 0 110 200 ∷ at 1 300 400 ∷ [])

two_fingers_on_one_window :
    stream_of two_fingers 1
    ≡ says 1 1000 (motion Down 0 (at 0 100 200 ∷ []))
    ∷ says 2 1000 (motion PointerDown 1 (at 0 100 200 ∷ at 1 300 400 ∷ []))
    ∷ says 3 2000 (motion Move 0 (at 0 110 200 ∷ at 1 300 400 ∷ []))
    ∷ says 4 3000 (motion PointerUp 0 (at 0 110 200 ∷ at 1 300 400 ∷ [])) ∷ []
two_fingers_on_one_window = refl

-- A finger goes down on the left of two windows, a second on the right one, and the first goes up.
abbrev over_two : ℕ → List Call
over_two flags =
    open_two ++ Windows 0 (window 1 flags 0 0 540 2400 ∷ window 2 0 540 0 1080 2400 ∷ []) ∷ []
    ++ moved 1000000 Down 0 (at 0 100 200 ∷ []) ++ moved 1010000 PointerDown 1 (at 0 100 200 ∷ at 1 700 400 ∷ [])
    ++ moved 1020000 PointerUp 0 (at 0 100 200 ∷ at 1 700 400 ∷ [])

the_left_window_of_two :
    stream_of (over_two 0) 1
    ≡ says 1 1000000 (motion Down 0 (at 0 100 200 ∷ [])) ∷ says 2 1010000 (motion Move 0 (at 0 100 200 ∷ []))
    ∷ says 3 1020000 (motion Up 0 (at 0 100 200 ∷ [])) ∷ []
the_left_window_of_two = refl

the_right_window_of_two :
    stream_of (over_two 0) 2
    ≡ says 1 1010000 (motion Down 0 (at 1 160 400 ∷ [])) ∷ says 2 1020000 (motion Move 0 (at 1 160 400 ∷ [])) ∷ []
the_right_window_of_two = refl

-- 32 is PREVENT_SPLITTING
a_left_window_that_prevents_splitting_has_both :
    stream_of (over_two 32) 1
    ≡ says 1 1000000 (motion Down 0 (at 0 100 200 ∷ []))
    ∷ says 2 1010000 (motion PointerDown 1 (at 0 100 200 ∷ at 1 700 400 ∷ []))
    ∷ says 3 1020000 (motion PointerUp 0 (at 0 100 200 ∷ at 1 700 400 ∷ [])) ∷ []
a_left_window_that_prevents_splitting_has_both = refl

and_the_right_window_has_none : stream_of (over_two 32) 2 ≡ []
and_the_right_window_has_none = refl

-- Three fingers over two windows: the first and the third on window 1, the second on window 2. The first goes up and comes down
-- again where no window is.
abbrev down_beside : List Call
down_beside =
    open_two ++ Windows 0 (window 1 0 0 0 540 2000 ∷ window 2 0 540 0 1080 2000 ∷ []) ∷ []
    ++ moved 1000 Down 0 (at 0 100 100 ∷ []) ++ moved 2000 PointerDown 1 (at 0 100 100 ∷ at 1 600 100 ∷ [])
    ++ moved 3000 PointerDown 2 (at 0 100 100 ∷ at 1 600 100 ∷ at 2 200 100 ∷ [])
    ++ moved 4000 PointerUp 0 (at 0 100 100 ∷ at 1 600 100 ∷ at 2 200 100 ∷ [])
    ++ moved 5000 PointerDown 0 (at 0 100 2200 ∷ at 1 600 100 ∷ at 2 200 100 ∷ [])

the_earliest_holder_began_first_although_its_pointers_are_younger :
    stream_of down_beside 1
    ≡ says 1 1000 (motion Down 0 (at 0 100 100 ∷ [])) ∷ says 2 2000 (motion Move 0 (at 0 100 100 ∷ []))
    ∷ says 3 3000 (motion PointerDown 1 (at 0 100 100 ∷ at 2 200 100 ∷ []))
    ∷ says 4 4000 (motion PointerUp 0 (at 0 100 100 ∷ at 2 200 100 ∷ []))
    ∷ says 5 5000 (motion PointerDown 0 (at 0 100 2200 ∷ at 2 200 100 ∷ [])) ∷ []
the_earliest_holder_began_first_although_its_pointers_are_younger = refl

the_other_holder_is_sent_moves :
    stream_of down_beside 2
    ≡ says 1 2000 (motion Down 0 (at 1 60 100 ∷ [])) ∷ says 2 3000 (motion Move 0 (at 1 60 100 ∷ []))
    ∷ says 3 4000 (motion Move 0 (at 1 60 100 ∷ [])) ∷ says 4 5000 (motion Move 0 (at 1 60 100 ∷ [])) ∷ []
the_other_holder_is_sent_moves = refl

-- Two taps, the second where no window is. Windows 1 and 3 watch for touches outside (4 is WATCH_OUTSIDE_TOUCH), window 1 in front
-- of the touched window 2, window 3 behind it.
abbrev taps_outside : List Call
taps_outside =
    open_two ++ Open usual
    ∷ Windows 0 (window 1 4 0 0 100 100 ∷ window 2 0 0 100 1080 2000 ∷ window 3 4 0 0 1080 2000 ∷ []) ∷ []
    ++ moved 1000 Down 0 (at 0 500 500 ∷ []) ++ moved 2000 Up 0 (at 0 500 500 ∷ [])
    ++ moved 3000 Down 0 (at 0 500 2200 ∷ []) ++ moved 4000 Up 0 (at 0 500 2200 ∷ [])

a_watcher_in_front_is_sent_of_the_touch_of_another : stream_of taps_outside 1 ≡ says 1 1000 (motion Outside 0 (at 0 500 500 ∷ [])) ∷ []
a_watcher_in_front_is_sent_of_the_touch_of_another = refl

the_touched_window_has_the_tap :
    stream_of taps_outside 2 ≡ says 1 1000 (motion Down 0 (at 0 500 400 ∷ [])) ∷ says 2 2000 (motion Up 0 (at 0 500 400 ∷ [])) ∷ []
the_touched_window_has_the_tap = refl

a_watcher_behind_is_sent_nothing : stream_of taps_outside 3 ≡ []
a_watcher_behind_is_sent_nothing = refl

-- Window 1 is slippery (8 is SLIPPERY), window 2 lies below it. A finger goes down on window 1 and moves onto window 2.
abbrev slippery_above : List Call
slippery_above = open_two ++ Windows 0 (window 1 8 0 0 1080 200 ∷ window 2 0 0 200 1080 2400 ∷ []) ∷ []

abbrev slides : List Call
slides = slippery_above ++ moved 1000 Down 0 (at 0 500 100 ∷ []) ++ moved 2000 Move 0 (at 0 500 300 ∷ [])

the_slippery_window_is_cancelled :
    stream_of slides 1 ≡ says 1 1000 (motion Down 0 (at 0 500 100 ∷ [])) ∷ says 2 2000 (motion Cancel 0 (at 0 500 100 ∷ [])) ∷ []
the_slippery_window_is_cancelled = refl

the_window_that_is_slipped_to_has_a_down : stream_of slides 2 ≡ says 1 2000 (motion Down 0 (at 0 500 100 ∷ [])) ∷ []
the_window_that_is_slipped_to_has_a_down = refl

-- with a second finger down on window 1, nothing slips
abbrev slides_with_two : List Call
slides_with_two =
    slippery_above ++ moved 1000 Down 0 (at 0 500 100 ∷ []) ++ moved 1500 PointerDown 1 (at 0 500 100 ∷ at 1 700 100 ∷ [])
    ++ moved 2000 Move 0 (at 0 500 300 ∷ at 1 700 100 ∷ [])

two_fingers_do_not_slip :
    stream_of slides_with_two 1
    ≡ says 1 1000 (motion Down 0 (at 0 500 100 ∷ [])) ∷ says 2 1500 (motion PointerDown 1 (at 0 500 100 ∷ at 1 700 100 ∷ []))
    ∷ says 3 2000 (motion Move 0 (at 0 500 300 ∷ at 1 700 100 ∷ [])) ∷ []
two_fingers_do_not_slip = refl

the_window_below_has_none_of_two : stream_of slides_with_two 2 ≡ []
the_window_below_has_none_of_two = refl

-- window 2 left a tap unfinished, and a tick reports it: nothing slips to it
abbrev slides_to_unresponsive : List Call
slides_to_unresponsive =
    slippery_above ++ moved 0 Down 0 (at 0 500 300 ∷ []) ++ moved 1000 Up 0 (at 0 500 300 ∷ []) ++ Tick 5000000 ∷ []
    ++ moved 6000000 Down 0 (at 0 500 100 ∷ []) ++ moved 6001000 Move 0 (at 0 500 300 ∷ [])

nothing_slips_to_an_unresponsive_window :
    stream_of slides_to_unresponsive 1
    ≡ says 1 6000000 (motion Down 0 (at 0 500 100 ∷ [])) ∷ says 2 6001000 (motion Move 0 (at 0 500 300 ∷ [])) ∷ []
nothing_slips_to_an_unresponsive_window = refl

the_unresponsive_window_has_its_tap_alone :
    stream_of slides_to_unresponsive 2
    ≡ says 1 0 (motion Down 0 (at 0 500 100 ∷ [])) ∷ says 2 1000 (motion Up 0 (at 0 500 100 ∷ [])) ∷ []
the_unresponsive_window_has_its_tap_alone = refl
