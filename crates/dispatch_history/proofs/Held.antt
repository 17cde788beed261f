-- Worked examples: keys, the focus, and repeats.
use Rattle.std.specs.Prelude.{◌≡◌, true, false, List, [], ◌∷◌, ◌++◌, refl, Option, Some, None}
use Rattle.input_types.specs.declared.message.Args.TheVariants.{Key as KeyOfDevice}
use Rattle.key_repeat.specs.declared.delays.Repeats.{Repeats}
use Rattle.dispatch_calls.specs.declared.call.Call.{Call}
use Rattle.dispatch_calls.specs.declared.call.Call.TheVariants.{Open, Windows, FocusOn, Notify, Pump}
use Rattle.dispatch_calls.specs.declared.reply.Reply.TheVariants.{Opened, Done, Taken, Dispatched, Repeated, Idle}
use Rattle.dispatch_history.proofs.Worked.{usual, window, key, focused, keyed, open_two, stream_of, replies_of}

-- A key goes down in the focused window and stays down.
abbrev held_down : List Call
held_down =
    Open usual ∷ Windows 0 (window 1 0 0 0 1080 2400 ∷ []) ∷ FocusOn 0 0 (Some 1) true ∷ Notify 1000000 (KeyOfDevice (key 115 24 true)) ∷ []
    ++ Pump 1000000 ∷ Pump 1499999 ∷ Pump 1500000 ∷ Pump 1549999 ∷ Pump 1550000 ∷ []

a_held_key_is_repeated_at_its_moments :
    replies_of held_down ≡ Opened 1 ∷ Done ∷ Done ∷ Taken ∷ Dispatched ∷ Idle ∷ Repeated ∷ Idle ∷ Repeated ∷ []
a_held_key_is_repeated_at_its_moments = refl

each_repeat_has_the_next_number :
    stream_of held_down 1
    ≡ focused 1 0 true ∷ keyed 2 1000000 (key 115 24 true) 0 0 ∷ keyed 3 1500000 (key 115 24 true) 0 1 ∷ keyed 4 1550000 (key 115 24 true) 0 2 ∷ []
each_repeat_has_the_next_number = refl

-- The same key and the same pumps, where the channel was opened with delays of its own, and where it gets no repeats.
abbrev held_with : Option Repeats → List Call
held_with repeats =
    Open (record { limit = 5000000; repeats = repeats }) ∷ Windows 0 (window 1 0 0 0 1080 2400 ∷ []) ∷ FocusOn 0 0 (Some 1) true ∷ []
    ++ Notify 1000000 (KeyOfDevice (key 115 24 true)) ∷ Pump 1000000 ∷ Pump 1500000 ∷ Pump 1660000 ∷ Pump 1699999 ∷ Pump 1700000 ∷ []

each_channel_has_its_own_delays :
    stream_of (held_with (Some (record { first = 660000; next = 40000 }))) 1
    ≡ focused 1 0 true ∷ keyed 2 1000000 (key 115 24 true) 0 0 ∷ keyed 3 1660000 (key 115 24 true) 0 1 ∷ keyed 4 1700000 (key 115 24 true) 0 2 ∷ []
each_channel_has_its_own_delays = refl

a_channel_without_repeats_is_sent_the_down_alone :
    replies_of (held_with None) ≡ Opened 1 ∷ Done ∷ Done ∷ Taken ∷ Dispatched ∷ Idle ∷ Idle ∷ Idle ∷ Idle ∷ []
a_channel_without_repeats_is_sent_the_down_alone = refl

-- The focus moves while a key is down: the window that loses it is sent a cancelled up, and the up goes to no window.
-- A key that is not in the layout goes to the window that has the focus now.
abbrev focus_moves : List Call
focus_moves =
    open_two ++ Windows 0 (window 1 0 0 0 540 2400 ∷ window 2 0 540 0 1080 2400 ∷ []) ∷ FocusOn 0 0 (Some 1) true ∷ []
    ++ Notify 1000000 (KeyOfDevice (key 115 24 true)) ∷ Pump 1000000 ∷ FocusOn 1200000 0 (Some 2) true ∷ []
    ++ Notify 1300000 (KeyOfDevice (key 115 24 false)) ∷ Pump 1300000 ∷ Notify 1400000 (KeyOfDevice (key 999 0 true)) ∷ Pump 1400000 ∷ []

the_window_that_loses_the_focus_loses_its_keys_first :
    stream_of focus_moves 1
    ≡ focused 1 0 true ∷ keyed 2 1000000 (key 115 24 true) 0 0 ∷ keyed 3 1200000 (key 115 24 false) 0x20 0 ∷ focused 4 1200000 false ∷ []
the_window_that_loses_the_focus_loses_its_keys_first = refl

the_up_of_a_key_that_nobody_holds_is_sent_to_nobody :
    stream_of focus_moves 2 ≡ focused 1 1200000 true ∷ keyed 2 1400000 (key 999 0 true) 0 0 ∷ []
the_up_of_a_key_that_nobody_holds_is_sent_to_nobody = refl
