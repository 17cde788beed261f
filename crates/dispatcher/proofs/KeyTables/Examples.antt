-- Worked examples: volume up of device 1 in window 1.
use Rattle.std.specs.Prelude.{◌≡◌, ℕ, Bool, true, false, List, [], ◌∷◌, Option, Some, None, refl}
use Rattle.input_types.specs.declared.key.KeyArgs.{KeyArgs}
use Rattle.input_types.specs.declared.key.KeyMsg.{KeyMsg}
use Rattle.input_types.specs.declared.message.Args.TheVariants.{Reset}
use Rattle.key_repeat.specs.Due.{Sent}
use Rattle.dispatch_calls.specs.declared.call.Call.TheVariants.{Windows, FocusOn, Pump, Tick}
use Rattle.dispatch_calls.specs.declared.reply.Reply.TheVariants.{Done, Dispatched, Repeated, Named}
use Rattle.dispatcher.specs.KeyTables.Focused.{change_of}
use Rattle.dispatcher.specs.KeyTables.Held.{sent_for_key, target_sent}
use Rattle.dispatcher.specs.KeyTables.Repeats.{repeat_after}

abbrev volume_up : Bool → KeyArgs
volume_up down = record { device = 1; scan = 115; code = 24; meta = 0; down = down }

abbrev message : Bool → ℕ → ℕ → KeyMsg
message down flags repeat = record { key = volume_up down; flags = flags; repeat = repeat }

abbrev sent : ℕ → ℕ → Option Sent
sent repeat clock = Some (record { channel = 1; key = message true 0 repeat; clock = clock })

-- it is down, and was repeated twice
abbrev held : List KeyMsg
held = message true 0 2 ∷ []

a_down_is_sent : sent_for_key (volume_up true) true [] ≡ Some (message true 0 0)
a_down_is_sent = refl

a_window_that_does_not_answer_gets_no_down : sent_for_key (volume_up true) false [] ≡ None
a_window_that_does_not_answer_gets_no_down = refl

an_up_is_sent_where_the_key_is_held : sent_for_key (volume_up false) true held ≡ Some (message false 0 0)
an_up_is_sent_where_the_key_is_held = refl

and_nowhere_else : sent_for_key (volume_up false) true [] ≡ None
and_nowhere_else = refl

a_reset_of_its_device_cancels : target_sent (Pump 1600000) Dispatched (Some (Reset 1)) 1 true true held (sent 2 1550000) ≡ message false 32 0 ∷ []
a_reset_of_its_device_cancels = refl

a_reset_of_another_does_not : target_sent (Pump 1600000) Dispatched (Some (Reset 2)) 1 true true held (sent 2 1550000) ≡ []
a_reset_of_another_does_not = refl

the_focus_moves_away : target_sent (FocusOn 1600000 0 (Some 2) true) Done None 1 true false held (sent 2 1550000) ≡ message false 32 0 ∷ []
the_focus_moves_away = refl

the_windows_are_shown_again : target_sent (Windows 1600000 []) Done None 1 true true held (sent 2 1550000) ≡ []
the_windows_are_shown_again = refl

a_tick_names_it : target_sent (Tick 6600000) (Named 1) None 1 true true held (sent 2 1550000) ≡ message false 32 0 ∷ []
a_tick_names_it = refl

a_tick_names_another : target_sent (Tick 6600000) (Named 2) None 1 true true held (sent 2 1550000) ≡ []
a_tick_names_another = refl

it_is_repeated : target_sent (Pump 1600000) Repeated None 1 true true held (sent 2 1550000) ≡ message true 0 3 ∷ []
it_is_repeated = refl

a_repeat_is_kept : repeat_after 1600000 1 (message true 0 3 ∷ []) (sent 2 1550000) ≡ sent 3 1600000
a_repeat_is_kept = refl

an_up_ends_it : repeat_after 1600000 1 (message false 0 0 ∷ []) (sent 2 1550000) ≡ None
an_up_ends_it = refl

nothing_sent_leaves_it : repeat_after 1600000 1 [] (sent 2 1550000) ≡ sent 2 1550000
nothing_sent_leaves_it = refl

the_focus_moves_from_1_to_2 : change_of 1 2 1 ≡ Some false
the_focus_moves_from_1_to_2 = refl

and_2_has_it : change_of 1 2 2 ≡ Some true
and_2_has_it = refl

and_3_is_sent_nothing : change_of 1 2 3 ≡ None
and_3_is_sent_nothing = refl
