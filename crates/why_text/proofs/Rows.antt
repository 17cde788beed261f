-- Worked examples of the text of the causes. Each is checked by computation.
use Rattle.std.specs.Prelude.{codes, ◌≡◌, ℕ, Bool, true, false, List, [], ◌∷◌, ◌++◌, reverse, Some, None, refl}
use Rattle.std.specs.Fmt.{digits}
use Rattle.input_types.specs.declared.message.Args.TheVariants.{Motion as MotionArgs, Key as KeyOfDevice, Reset}
use Rattle.input_types.specs.declared.motion.MotionAction.TheVariants.{Down, Up, Move, Cancel, PointerDown, PointerUp}
use Rattle.dispatch_calls.specs.declared.call.Call.{Call}
use Rattle.dispatch_calls.specs.declared.call.Call.TheVariants.{Open, Windows, FocusOn, Pump, Tick, Receive, Finish, Pilfer, Remove}
use Rattle.dispatch_history.specs.Legal.{run}
use Rattle.dispatch_history.proofs.Worked.{usual, window, on, of, at, motion, cancelled, key, dispatch, moved, open_two, one_display, two_displays}
use Rattle.why_text.specs.Words.{channels_that, ids_that}
use Rattle.why_text.specs.Text.{why_text}

-- the text of the replay of some calls, which stand in order
abbrev why_on : List ℕ → List Call → List ℕ
why_on displays calls = why_text displays (run displays (reverse calls))

abbrev why : List Call → List ℕ
why calls = why_on one_display calls

-- Windows 1 and 2 side by side, with these flags. Below 2400 there is none.
abbrev side_by_side : (left right : ℕ) → List Call
side_by_side left right = open_two ++ Windows 0 (window 1 left 0 0 540 2400 ∷ window 2 right 540 0 1080 2400 ∷ []) ∷ []

abbrev first_finger : List Call
first_finger = moved 1000000 Down 0 (at 0 100 200 ∷ [])

-- a second finger goes down
abbrev second_finger : (x y : ℕ) → List Call
second_finger x y = moved 1010000 PointerDown 1 (at 0 100 200 ∷ at 1 x y ∷ [])

abbrev shown : List ℕ
shown = codes "0 windows 1@0:0,0,540,2400 2@0:540,0,1080,2400\n"

abbrev first_down : List ℕ
first_down = codes "1000000 down 1 0 100,200 touched 1 row first chosen 1 spies - pilfering - given 1 mute - outside -\n"

a_finger_on_each_window_and_the_first_goes_up :
    why (side_by_side 0 0 ++ first_finger ++ second_finger 700 400 ++ moved 1020000 PointerUp 0 (at 0 100 200 ∷ at 1 700 400 ∷ []))
    ≡ shown ++ first_down ++ codes "1010000 down 1 1 700,400 touched 2 row split chosen 2 spies - pilfering - given 2 mute - outside -\n"
    ++ codes "1020000 up 1 0 from 1\n"
unfolding digits channels_that ids_that
a_finger_on_each_window_and_the_first_goes_up = refl

-- 32 is PREVENT_SPLITTING
the_first_window_prevents_splitting :
    why (side_by_side 32 0 ++ first_finger ++ second_finger 700 400)
    ≡ shown ++ first_down ++ codes "1010000 down 1 1 700,400 touched 2 row unsplit chosen 1 spies - pilfering - given 1 mute - outside -\n"
unfolding digits channels_that ids_that
the_first_window_prevents_splitting = refl

the_second_window_prevents_splitting :
    why (side_by_side 0 32 ++ first_finger ++ second_finger 700 400)
    ≡ shown ++ first_down ++ codes "1010000 down 1 1 700,400 touched 2 row whole chosen 1 spies - pilfering - given 1 mute - outside -\n"
unfolding digits channels_that ids_that
the_second_window_prevents_splitting = refl

the_second_finger_touches_nothing :
    why (side_by_side 0 0 ++ first_finger ++ second_finger 700 2450)
    ≡ shown ++ first_down ++ codes "1010000 down 1 1 700,2450 touched - row nothing chosen 1 spies - pilfering - given 1 mute - outside -\n"
unfolding digits channels_that ids_that
the_second_finger_touches_nothing = refl

the_first_finger_touches_nothing :
    why (side_by_side 0 0 ++ moved 1000000 Down 0 (at 0 100 2450 ∷ []))
    ≡ shown ++ codes "1000000 down 1 0 100,2450 touched - row first chosen - spies - pilfering - given - mute - outside -\n"
unfolding digits channels_that ids_that
the_first_finger_touches_nothing = refl

-- Window 1 is a spy (16 is SPY) in front of window 2. It pilfers, and then requests a pilfer that is refused.
a_spy_pilfers :
    why
    (open_two ++ Windows 0 (window 1 16 0 0 1080 2400 ∷ window 2 0 0 0 1080 2400 ∷ []) ∷ [] ++ first_finger
    ++ Pilfer 1001000 1 1 ∷ Pilfer 1002000 1 2 ∷ Pilfer 1003000 2 1 ∷ Pilfer 1004000 3 1 ∷ [] ++ second_finger 700 400)
    ≡ codes "0 windows 1@0:0,0,1080,2400 2@0:0,0,1080,2400\n"
    ++ codes "1000000 down 1 0 100,200 touched 2 row first chosen 2 spies 1 pilfering - given 1,2 mute - outside -\n"
    ++ codes "1001000 pilfer 1 1 0 from 2\n1002000 pilfer 1 2 NothingHeld\n1003000 pilfer 2 1 NotSpy\n1004000 pilfer 3 1 Gone\n"
    ++ codes "1010000 down 1 1 700,400 touched 2 row first chosen 2 spies 1 pilfering 1 given 1 mute - outside -\n"
unfolding digits channels_that ids_that
a_spy_pilfers = refl

-- The owner of channel 1 finishes nothing for five seconds, and then its first message.
a_window_does_not_answer :
    why
    (side_by_side 0 0 ++ first_finger ++ Tick 6000000 ∷ [] ++ moved 6100000 Up 0 (at 0 100 200 ∷ []) ++ moved 6200000 Down 0 (at 0 100 200 ∷ [])
    ++ Receive 1 ∷ Finish 6300000 1 1 ∷ Finish 6400000 1 1 ∷ [])
    ≡ shown ++ first_down ++ codes "6000000 timeout 1 1 1:0\n6100000 up 1 0 from -\n"
    ++ codes "6200000 down 1 0 100,200 touched 1 row first chosen 1 spies - pilfering - given - mute 1 outside -\n6300000 responsive 1\n"
unfolding digits channels_that ids_that
a_window_does_not_answer = refl

-- device 1 presses a key
abbrev pressed : (now scan : ℕ) → Bool → List Call
pressed now scan down = dispatch now (KeyOfDevice (key scan 24 down))

-- It holds pointers of two devices and two keys then.
it_loses_all_that_it_holds :
    why
    (side_by_side 0 0 ++ FocusOn 0 0 (Some 1) true ∷ [] ++ first_finger ++ second_finger 200 300
    ++ dispatch 1020000 (MotionArgs (of 2 (motion Down 0 (at 0 10 20 ∷ [])))) ++ pressed 1030000 115 true ++ pressed 1040000 30 true ++ Tick 5000000 ∷ [])
    ≡ shown ++ codes "0 request 0 1\n0 focus 0 - 1\n0 target - 1\n" ++ first_down
    ++ codes "1010000 down 1 1 200,300 touched 1 row split chosen 1 spies - pilfering - given 1 mute - outside -\n"
    ++ codes "1020000 down 2 0 10,20 touched 1 row first chosen 1 spies - pilfering - given 1 mute - outside -\n"
    ++ codes "1030000 key 1 115 down target 1 given 1\n1040000 key 1 30 down target 1 given 1\n"
    ++ codes "5000000 timeout 1 1 1:0,1 2:0 key 1:30 key 1:115\n"
unfolding digits channels_that ids_that
it_loses_all_that_it_holds = refl

-- A device is reset. Window 1 holds a key of it, and window 2 a pointer.
a_device_begins_anew :
    why
    (side_by_side 0 0 ++ FocusOn 0 0 (Some 1) true ∷ [] ++ pressed 1000 115 true ++ moved 2000 Down 0 (at 0 700 400 ∷ []) ++ dispatch 3000 (Reset 1))
    ≡ shown ++ codes "0 request 0 1\n0 focus 0 - 1\n0 target - 1\n1000 key 1 115 down target 1 given 1\n"
    ++ codes "2000 down 1 0 700,400 touched 2 row first chosen 2 spies - pilfering - given 2 mute - outside -\n3000 reset 1 from 1,2\n"
unfolding digits channels_that ids_that
a_device_begins_anew = refl

a_key_is_repeated :
    why
    (side_by_side 0 0 ++ pressed 1000 30 true ++ FocusOn 2000 0 (Some 2) true ∷ [] ++ pressed 3000 115 true ++ Pump 503000 ∷ [] ++ pressed 504000 115 false
    ++ pressed 505000 30 false)
    ≡ shown ++ codes "1000 key 1 30 down target - given -\n2000 request 0 2\n2000 focus 0 - 2\n2000 target - 2\n3000 key 1 115 down target 2 given 2\n"
    ++ codes "503000 key 1 115 repeat 1 to 2\n504000 key 1 115 up from 2\n505000 key 1 30 up from -\n"
unfolding digits channels_that ids_that
a_key_is_repeated = refl

-- Window 1 watches for touches outside of it (4 is WATCH_OUTSIDE_TOUCH), and lies in front.
a_touch_is_outside :
    why (open_two ++ Windows 0 (window 1 4 0 0 100 100 ∷ window 2 0 0 0 1080 2400 ∷ []) ∷ [] ++ moved 1000 Down 0 (at 0 500 500 ∷ []))
    ≡ codes "0 windows 1@0:0,0,100,100 2@0:0,0,1080,2400\n"
    ++ codes "1000 down 1 0 500,500 touched 2 row first chosen 2 spies - pilfering - given 2 mute - outside 1\n"
unfolding digits channels_that ids_that
a_touch_is_outside = refl

-- 8 is SLIPPERY
a_finger_slips :
    why (side_by_side 8 0 ++ first_finger ++ moved 1010000 Move 0 (at 0 300 300 ∷ []) ++ moved 1020000 Move 0 (at 0 600 300 ∷ []))
    ≡ shown ++ first_down ++ codes "1020000 slip 1 0 600,300 from 1 to 2\n"
unfolding digits channels_that ids_that
a_finger_slips = refl

-- The first finger is found to be a palm, and then the second, which is the last one.
two_palms :
    why
    (side_by_side 0 0 ++ first_finger ++ second_finger 700 400 ++ dispatch 1020000 (MotionArgs (cancelled PointerUp 0 (at 0 100 200 ∷ at 1 700 400 ∷ [])))
    ++ moved 1030000 Cancel 0 (at 1 700 400 ∷ []))
    ≡ shown ++ first_down ++ codes "1010000 down 1 1 700,400 touched 2 row split chosen 2 spies - pilfering - given 2 mute - outside -\n"
    ++ codes "1020000 palm 1 0 from 1\n1030000 palm 1 1 from 2\n"
unfolding digits channels_that ids_that
two_palms = refl

-- Window 2 goes while a finger is on it.
a_window_goes :
    why (side_by_side 0 0 ++ moved 1000 Down 0 (at 0 700 400 ∷ []) ++ Windows 2000 (window 1 0 0 0 540 2400 ∷ []) ∷ [])
    ≡ shown ++ codes "1000 down 1 0 700,400 touched 2 row first chosen 2 spies - pilfering - given 2 mute - outside -\n"
    ++ codes "2000 windows 1@0:0,0,540,2400\n2000 gone 2 1:0\n"
unfolding digits channels_that ids_that
a_window_goes = refl

-- A channel is removed while its window holds a pointer and a key, and has the focus; and once more.
a_channel_is_removed :
    why
    (side_by_side 0 0 ++ FocusOn 0 0 (Some 1) true ∷ [] ++ first_finger ++ pressed 1010000 115 true ++ Remove 1020000 1 ∷ Remove 1030000 1 ∷ [])
    ≡ shown ++ codes "0 request 0 1\n0 focus 0 - 1\n0 target - 1\n" ++ first_down ++ codes "1010000 key 1 115 down target 1 given 1\n"
    ++ codes "1020000 removed 1 1:0 key 1:115\n1020000 focus 0 1 -\n1020000 target 1 -\n1030000 removed 1 Gone\n"
unfolding digits channels_that ids_that
a_channel_is_removed = refl

-- Window 1 is on display 0, and window 2 on display 1. The request for display 1 takes the keys to window 2, and back.
the_focus_of_two_displays :
    why_on two_displays
    (open_two ++ Windows 0 (window 1 0 0 0 540 2400 ∷ on 1 (window 2 0 0 0 540 2400) ∷ []) ∷ FocusOn 1000 0 (Some 1) true ∷ FocusOn 2000 1 (Some 2) true ∷ []
    ++ pressed 3000 115 true ++ FocusOn 4000 0 (Some 1) true ∷ FocusOn 5000 0 None true ∷ [])
    ≡ codes "0 windows 1@0:0,0,540,2400 2@1:0,0,540,2400\n1000 request 0 1\n1000 focus 0 - 1\n1000 target - 1\n"
    ++ codes "2000 request 1 2\n2000 focus 1 - 2\n2000 target 1 2\n3000 key 1 115 down target 2 given 2\n4000 request 0 1\n4000 gone 2 key 1:115\n"
    ++ codes "4000 target 2 1\n5000 request 0 -\n5000 focus 0 1 -\n5000 target 1 -\n"
unfolding digits channels_that ids_that
the_focus_of_two_displays = refl

-- The focus is requested for a channel that is not there. It has the focus once it is opened.
a_channel_that_is_not_there :
    why (open_two ++ Windows 0 (window 3 0 0 0 540 2400 ∷ []) ∷ FocusOn 1000 0 (Some 9) true ∷ FocusOn 2000 0 (Some 3) true ∷ Open usual ∷ [])
    ≡ codes "0 windows 3@0:0,0,540,2400\n1000 request 0 9\n2000 request 0 3\n2000 focus 0 - 3\n2000 target - 3\n"
unfolding digits channels_that ids_that
a_channel_that_is_not_there = refl
