-- Worked examples: two displays. Device 1 touches display 0, device 2 touches display 1, and device 3 has keys.
use Rattle.std.specs.Prelude.{◌≡◌, ℕ, Bool, true, false, List, [], ◌∷◌, ◌++◌, refl, Some, None}
use Rattle.input_types.specs.declared.key.KeyArgs.{KeyArgs}
use Rattle.input_types.specs.declared.message.Args.TheVariants.{Motion as MotionArgs, Key as KeyOfDevice}
use Rattle.input_types.specs.declared.message.Message.{Message}
use Rattle.input_types.specs.declared.motion.MotionAction.{MotionAction}
use Rattle.input_types.specs.declared.motion.MotionAction.TheVariants.{Down, Up, Move, Cancel, Outside}
use Rattle.input_types.specs.declared.pointer.Pointer.{Pointer}
use Rattle.window_snapshot.specs.declared.window.Window.{Window}
use Rattle.dispatch_calls.specs.declared.call.Call.{Call}
use Rattle.dispatch_calls.specs.declared.call.Call.TheVariants.{Open, Windows, FocusOn}
use Rattle.dispatch_history.proofs.Worked.{usual, window, on, of, at, motion, dispatch, moved, says, focused, keyed, open_two, two_displays, stream_on}

-- the windows A of channel 1 and B of channel 2, each as large as its display
abbrev a : Window
a = window 1 0 0 0 1080 2400

abbrev b : Window
b = on 1 (window 2 0 0 0 1920 1080)

abbrev volume : Bool → KeyArgs
volume down = record { device = 3; scan = 115; code = 24; meta = 0; down = down }

abbrev pressed : ℕ → Bool → List Call
pressed now down = dispatch now (KeyOfDevice (volume down))

-- a motion of device 2, and one that it is sent
abbrev moved_2 : ℕ → MotionAction → List Pointer → List Call
moved_2 now action ps = dispatch now (MotionArgs (of 2 (motion action 0 ps)))

abbrev says_2 : ℕ → ℕ → MotionAction → List Pointer → Message
says_2 seq now action ps = says seq now (of 2 (motion action 0 ps))

-- Both displays have their focus. Keys follow the last request.
abbrev keys_follow : List Call
keys_follow =
    open_two ++ Windows 0 (a ∷ b ∷ []) ∷ FocusOn 0 0 (Some 1) true ∷ FocusOn 0 1 (Some 2) true ∷ [] ++ pressed 1000000 true
    ++ FocusOn 1200000 0 (Some 1) true ∷ [] ++ pressed 1300000 false ++ pressed 1400000 true

the_display_that_is_requested_again_gets_the_keys :
    stream_on two_displays keys_follow 1 ≡ focused 1 0 true ∷ keyed 2 1400000 (volume true) 0 0 ∷ []
the_display_that_is_requested_again_gets_the_keys = refl

the_other_one_keeps_its_focus_and_loses_its_keys :
    stream_on two_displays keys_follow 2
    ≡ focused 1 0 true ∷ keyed 2 1000000 (volume true) 0 0 ∷ keyed 3 1200000 (volume false) 0x20 0 ∷ []
the_other_one_keeps_its_focus_and_loses_its_keys = refl

-- A key is held when the focus of the other display is requested for none: it is cancelled, and the next key goes to
-- no window.
abbrev keys_to_nobody : List Call
keys_to_nobody =
    open_two ++ Windows 0 (a ∷ b ∷ []) ∷ FocusOn 0 0 (Some 1) true ∷ [] ++ pressed 1000000 true ++ FocusOn 1200000 1 None true ∷ []
    ++ pressed 1300000 false ++ pressed 1400000 true

held_keys_are_cancelled_although_the_focus_stays :
    stream_on two_displays keys_to_nobody 1
    ≡ focused 1 0 true ∷ keyed 2 1000000 (volume true) 0 0 ∷ keyed 3 1200000 (volume false) 0x20 0 ∷ []
held_keys_are_cancelled_although_the_focus_stays = refl

-- A request that leaves keys where they go: the window on display 1 loses the focus there, and the window that holds the
-- key on display 0 is sent nothing for it, and the next key.
abbrev keys_stay : List Call
keys_stay =
    open_two ++ Windows 0 (a ∷ b ∷ []) ∷ FocusOn 0 1 (Some 2) true ∷ FocusOn 0 0 (Some 1) true ∷ [] ++ pressed 1000000 true
    ++ FocusOn 1200000 1 None false ∷ [] ++ pressed 1300000 false ++ pressed 1400000 true

the_focus_is_withdrawn : stream_on two_displays keys_stay 2 ≡ focused 1 0 true ∷ focused 2 1200000 false ∷ []
the_focus_is_withdrawn = refl

and_the_key_target_keeps_its_keys :
    stream_on two_displays keys_stay 1
    ≡ focused 1 0 true ∷ keyed 2 1000000 (volume true) 0 0 ∷ keyed 3 1300000 (volume false) 0 0 ∷ keyed 4 1400000 (volume true) 0 0 ∷ []
and_the_key_target_keeps_its_keys = refl

-- It loses them if its own focus is withdrawn, and keys go to no window.
abbrev target_withdrawn : List Call
target_withdrawn =
    open_two ++ Windows 0 (a ∷ b ∷ []) ∷ FocusOn 0 1 (Some 2) true ∷ FocusOn 0 0 (Some 1) true ∷ [] ++ pressed 1000000 true
    ++ FocusOn 1200000 0 None false ∷ [] ++ pressed 1300000 false ++ pressed 1400000 true

a_target_whose_focus_is_withdrawn_loses_its_keys :
    stream_on two_displays target_withdrawn 1
    ≡ focused 1 0 true ∷ keyed 2 1000000 (volume true) 0 0 ∷ keyed 3 1200000 (volume false) 0x20 0 ∷ focused 4 1200000 false ∷ []
a_target_whose_focus_is_withdrawn_loses_its_keys = refl

and_keys_go_to_nobody : stream_on two_displays target_withdrawn 2 ≡ focused 1 0 true ∷ []
and_keys_go_to_nobody = refl

-- The focus of display 1 is requested while nothing is shown there. Then the window comes.
abbrev requested_early : List Call
requested_early =
    open_two ++ Windows 0 (a ∷ []) ∷ FocusOn 1000 1 (Some 2) true ∷ [] ++ pressed 2000 true ++ Windows 3000 (a ∷ b ∷ []) ∷ []
    ++ pressed 4000 false ++ pressed 5000 true

a_window_that_comes_where_it_was_requested_is_focused :
    stream_on two_displays requested_early 2 ≡ focused 1 3000 true ∷ keyed 2 5000 (volume true) 0 0 ∷ []
a_window_that_comes_where_it_was_requested_is_focused = refl

and_the_window_on_the_first_display_is_sent_nothing : stream_on two_displays requested_early 1 ≡ []
and_the_window_on_the_first_display_is_sent_nothing = refl

-- A focused window moves from display 0 to display 1 in the middle of a gesture.
abbrev moves_over : List Call
moves_over =
    Open usual ∷ Windows 0 (a ∷ []) ∷ FocusOn 0 0 (Some 1) true ∷ [] ++ pressed 1000 true ++ moved 2000 Down 0 (at 0 540 1200 ∷ [])
    ++ Windows 3000 (on 1 a ∷ []) ∷ [] ++ moved 4000 Move 0 (at 0 540 1200 ∷ []) ++ moved 5000 Up 0 (at 0 540 1200 ∷ [])
    ++ pressed 6000 false ++ moved_2 7000 Down (at 0 10 20 ∷ [])

it_loses_its_pointer_and_the_focus_there_and_does_not_get_it_here :
    stream_on two_displays moves_over 1
    ≡ focused 1 0 true ∷ keyed 2 1000 (volume true) 0 0 ∷ says 3 2000 (motion Down 0 (at 0 540 1200 ∷ []))
    ∷ says 4 3000 (motion Cancel 0 (at 0 540 1200 ∷ [])) ∷ keyed 5 3000 (volume false) 0x20 0 ∷ focused 6 3000 false
    ∷ says_2 7 7000 Down (at 0 10 20 ∷ []) ∷ []
it_loses_its_pointer_and_the_focus_there_and_does_not_get_it_here = refl

-- It was requested on both displays: it is focused before and after, and is sent nothing about it.
abbrev requested_on_both : List Call
requested_on_both =
    Open usual ∷ Windows 0 (a ∷ []) ∷ FocusOn 0 1 (Some 1) true ∷ FocusOn 0 0 (Some 1) true ∷ Windows 3000 (on 1 a ∷ []) ∷ []

a_window_that_is_focused_on_the_one_and_then_on_the_other_is_sent_once :
    stream_on two_displays requested_on_both 1 ≡ focused 1 0 true ∷ []
a_window_that_is_focused_on_the_one_and_then_on_the_other_is_sent_once = refl

-- A finger on each display.
abbrev finger_on_each : List Call
finger_on_each =
    open_two ++ Windows 0 (a ∷ b ∷ []) ∷ [] ++ moved 1000 Down 0 (at 0 100 200 ∷ []) ++ moved_2 2000 Down (at 0 100 200 ∷ [])
    ++ moved 3000 Move 0 (at 0 110 200 ∷ []) ++ moved_2 4000 Up (at 0 100 200 ∷ []) ++ moved 5000 Up 0 (at 0 110 200 ∷ [])

each_window_has_the_finger_of_its_display :
    stream_on two_displays finger_on_each 1
    ≡ says 1 1000 (motion Down 0 (at 0 100 200 ∷ [])) ∷ says 2 3000 (motion Move 0 (at 0 110 200 ∷ []))
    ∷ says 3 5000 (motion Up 0 (at 0 110 200 ∷ [])) ∷ []
each_window_has_the_finger_of_its_display = refl

so_has_the_other :
    stream_on two_displays finger_on_each 2 ≡ says_2 1 2000 Down (at 0 100 200 ∷ []) ∷ says_2 2 4000 Up (at 0 100 200 ∷ []) ∷ []
so_has_the_other = refl

-- In front of A, a spy (16 is SPY) and a watcher of touches outside (4 is WATCH_OUTSIDE_TOUCH) are on display 1, and cover the same
-- point there.
abbrev beside_another_display : List Call
beside_another_display =
    open_two ++ Open usual ∷ Windows 0 (on 1 (window 2 16 0 0 1080 2400) ∷ on 1 (window 3 4 0 0 100 100) ∷ a ∷ []) ∷ []
    ++ moved 1000 Down 0 (at 0 540 500 ∷ []) ++ moved 2000 Up 0 (at 0 540 500 ∷ [])

the_window_of_the_display_has_the_tap :
    stream_on two_displays beside_another_display 1
    ≡ says 1 1000 (motion Down 0 (at 0 540 500 ∷ [])) ∷ says 2 2000 (motion Up 0 (at 0 540 500 ∷ [])) ∷ []
the_window_of_the_display_has_the_tap = refl

a_spy_on_another_display_is_sent_nothing : stream_on two_displays beside_another_display 2 ≡ []
a_spy_on_another_display_is_sent_nothing = refl

a_watcher_on_another_display_is_sent_nothing : stream_on two_displays beside_another_display 3 ≡ []
a_watcher_on_another_display_is_sent_nothing = refl

-- on one display both are sent
the_spy_is_sent_on_one_display :
    stream_on two_displays
    (open_two ++ Open usual ∷ Windows 0 (window 2 16 0 0 1080 2400 ∷ window 3 4 0 0 100 100 ∷ a ∷ []) ∷ []
    ++ moved 1000 Down 0 (at 0 540 500 ∷ []))
    2
    ≡ says 1 1000 (motion Down 0 (at 0 540 500 ∷ [])) ∷ []
the_spy_is_sent_on_one_display = refl

so_is_the_watcher :
    stream_on two_displays
    (open_two ++ Open usual ∷ Windows 0 (window 2 16 0 0 1080 2400 ∷ window 3 4 0 0 100 100 ∷ a ∷ []) ∷ []
    ++ moved 1000 Down 0 (at 0 540 500 ∷ []))
    3
    ≡ says 1 1000 (motion Outside 0 (at 0 540 500 ∷ [])) ∷ []
so_is_the_watcher = refl
