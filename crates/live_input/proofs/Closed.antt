-- A client is closed that had requested the focus of another display than that of the keys: worked out by hand.
use Rattle.std.proofs.Common.{◌≡◌, List, [], ◌∷◌, ◌++◌, Bool, true, false, None, Some, reverse, refl}
use Rattle.input_types.specs.declared.key.KeyArgs.{KeyArgs}
use Rattle.input_types.specs.declared.message.Args.TheVariants.{Key as KeyOfDevice}
use Rattle.window_snapshot.specs.declared.window.Window.{Window}
use Rattle.dispatch_calls.specs.declared.call.Call.{Call}
use Rattle.dispatch_calls.specs.declared.call.Call.TheVariants.{Windows, FocusOn, Receive, Finish}
use Rattle.dispatch_history.specs.Effect.{Effect, past_of, stream}
use Rattle.dispatch_history.specs.Focus.{asked, focus, key_target, requested}
use Rattle.dispatch_history.specs.Keys.{keys}
use Rattle.dispatch_history.specs.Legal.{answered, run}
use Rattle.dispatch_history.specs.Ordered.{extend}
use Rattle.dispatch_history.proofs.Worked.{dispatch, focused, key, keyed, on, open_two, two_displays, window}
use Rattle.live_input.specs.Closing.{forgotten, hidden}
use Rattle.live_input.specs.Settling.{next_left}
use Rattle.live_input.specs.Taking.{TakeAll}

-- the windows of channel 1 on display 0 and of channel 2 on display 1, each as large as its display
abbrev pub lower : Window
lower = window 1 0 0 0 1080 2400

abbrev pub upper : Window
upper = on 1 (window 2 0 0 0 1920 1080)

-- Shift, of scan code 42 and key code 59
abbrev pub shift : Bool → KeyArgs
shift down = key 42 59 down

-- The focus of display 1 is requested for channel 2, and then that of display 0 for channel 1. Shift goes down there.
abbrev pub shift_held : List Effect
shift_held =
    run two_displays
    (reverse
    (open_two ++ Windows 0 (lower ∷ upper ∷ []) ∷ FocusOn 0 1 (Some 2) true ∷ FocusOn 0 0 (Some 1) true ∷ []
    ++ dispatch 1000 (KeyOfDevice (shift true))))

channel_1_holds_it : keys shift_held 1 ≡ shift true ∷ []
channel_1_holds_it = refl

-- The client of channel 2 is closed. Its window goes and its request, and it receives and finishes that it had the focus
-- and that it lost it.
abbrev closing : List Call
closing =
    Windows 2000 (lower ∷ []) ∷ FocusOn 2000 1 None false ∷ Receive 2 ∷ Finish 2000 2 1 ∷ Receive 2 ∷ Finish 2000 2 2 ∷ []

abbrev closed : List Effect
closed = extend two_displays shift_held closing

these_calls_close_it :
    closed
    ≡ extend two_displays (forgotten two_displays 2000 2 (hidden two_displays 2000 2 shift_held))
    (Receive 2 ∷ Finish 2000 2 1 ∷ Receive 2 ∷ Finish 2000 2 2 ∷ [])
these_calls_close_it = refl

nothing_is_left : next_left 2000 2 closed ≡ None
nothing_is_left = refl

each_call_takes_something : TakeAll two_displays 2000 2 shift_held closing
each_call_takes_something = ((refl, refl), ((refl, refl, refl, refl), (refl, ((refl, refl), (refl, ((refl, refl), tt))))))

it_was_sent_both : stream closed 2 ≡ focused 2 2000 false ∷ focused 1 0 true ∷ []
it_was_sent_both = refl

nobody_has_the_focus_of_its_display : focus (past_of closed) 1 ≡ None
nobody_has_the_focus_of_its_display = refl

nor_was_it_requested_for_anybody : requested (past_of closed) 1 ≡ None
nor_was_it_requested_for_anybody = refl

-- the other client has Shift still, and was sent nothing
keys_go_where_they_went : asked (past_of closed) ≡ 0
keys_go_where_they_went = refl

the_key_target_is_the_same : key_target (past_of closed) ≡ Some 1
the_key_target_is_the_same = refl

it_holds_shift_still : keys closed 1 ≡ shift true ∷ []
it_holds_shift_still = refl

it_was_sent_nothing : stream closed 1 ≡ keyed 2 1000 (shift true) 0 0 ∷ focused 1 0 true ∷ []
it_was_sent_nothing = refl

-- A request of none that took keys along would cancel Shift.
abbrev taken_along : List Effect
taken_along = answered two_displays (FocusOn 2000 1 None true) shift_held

shift_would_be_lost : keys taken_along 1 ≡ []
shift_would_be_lost = refl

and_cancelled : stream taken_along 1 ≡ keyed 3 2000 (shift false) 0x20 0 ∷ keyed 2 1000 (shift true) 0 0 ∷ focused 1 0 true ∷ []
and_cancelled = refl

-- If the key target itself is closed, keys go nowhere.
abbrev own : List Effect
own = forgotten two_displays 2000 1 (hidden two_displays 2000 1 shift_held)

it_loses_shift : keys own 1 ≡ []
it_loses_shift = refl

keys_go_nowhere : key_target (past_of own) ≡ None
keys_go_nowhere = refl
