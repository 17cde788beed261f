-- A client that receives nothing is choked, and released once it has drained: worked out by hand, for a limit of one unreceived message.
use Rattle.std.proofs.Common.{◌≡◌, ℕ, Bool, List, [], ◌∷◌, ◌++◌, map, true, false, None, Some, replicate, reverse, refl}
use Rattle.input_types.specs.declared.motion.MotionAction.TheVariants.{Cancel, Down, Move}
use Rattle.window_snapshot.specs.declared.window.Window.{Window}
use Rattle.live_input.specs.declared.client.Client.{Client}
use Rattle.live_input.specs.declared.windows.ClientWindow.{ClientWindow}
use Rattle.input_types.specs.declared.message.Args.TheVariants.{Key as KeyArgs}
use Rattle.dispatch_calls.specs.declared.call.Call.TheVariants.{Open, Windows, FocusOn, Pump, Receive, Finish}
use Rattle.dispatch_history.specs.Effect.{Effect, past_of, stream}
use Rattle.dispatch_history.specs.Focus.{asked, focus, requested}
use Rattle.dispatch_history.specs.History.{snapshot}
use Rattle.dispatch_history.specs.Keys.{keys}
use Rattle.dispatch_history.specs.Legal.{run}
use Rattle.dispatch_history.specs.Ordered.{extend}
use Rattle.dispatch_history.proofs.Worked.{usual, at, dispatch, focused, key, motion, moved, one_display, says, two_displays, window}
use Rattle.live_input.specs.declared.client.Seat.{Seat}
use Rattle.live_input.specs.Wanted.{Wanted}
use Rattle.live_input.specs.Limit.{eased, is_choked, unreceived, walled, without_client}
use Rattle.live_input.specs.Options.{no_options}
use Rattle.live_input.specs.Seats.{taken_by, vacant, with_seat}
use Rattle.live_input.specs.Settling.{next_due}
use Rattle.live_input.specs.Windows.{window_of}
use Rattle.live_input.proofs.Closed.{lower, shift, shift_held, upper}

abbrev first : Client
first = record { channel = 1; generation = 1 }

-- a window of the whole display, and the same as the window of a client
abbrev whole : (channel flags : ℕ) → Window
whole c f = window c f 0 0 1080 2400

abbrev by_client : Window → ClientWindow
by_client v =
    record {
      client = Some (record { channel = v.channel; generation = v.channel });
      info = record { display = v.display; frame = v.frame; region = v.region; flags = v.flags; owner = v.owner; opacity = v.opacity; occlusion = v.occlusion };
    }

abbrev of_client : (channel flags : ℕ) → ClientWindow
of_client c f = by_client (whole c f)

abbrev one_client : List Seat
one_client = with_seat 1 (taken_by 1 0 no_options) (replicate 64 vacant)

-- what the program wants: the window, and the focus for it; by whether the client is choked, as a mask, and whether that is shown
abbrev wants : (choked : ℕ) → (is_shown : Bool) → Wanted
wants choked is_shown = record { most = 1; windows = of_client 1 0 ∷ []; requested = Some first ∷ None ∷ None ∷ None ∷ []; choked = choked; is_shown = is_shown }

-- The client has the focus, and a finger goes down in its window: two messages, of which it received the first.
abbrev held : List Effect
held = run one_display (reverse (Open usual ∷ Windows 0 (whole 1 0 ∷ []) ∷ FocusOn 0 0 (Some 1) true ∷ Receive 1 ∷ [] ++ moved 1000 Down 0 (at 0 540 1200 ∷ [])))

one_message_is_no_more_than_one : is_choked 1 0 one_client held 1 ≡ false
one_message_is_no_more_than_one = refl

-- The finger moves.
abbrev too_many : List Effect
too_many = extend one_display held (moved 2000 Move 0 (at 0 540 1300 ∷ []))

two_are_too_many : is_choked 1 0 one_client too_many 1 ≡ true
two_are_too_many = refl

-- It is choked at 3000: it loses the finger and the focus, and what the finger does next is not sent.
abbrev choked : List Effect
choked = eased one_display 3000 (wants 1 false) too_many

abbrev after_it : List Effect
after_it = extend one_display choked (moved 4000 Move 0 (at 0 540 1400 ∷ []))

it_loses_the_finger_and_the_focus :
    stream after_it 1
    ≡ focused 5 3000 false ∷ says 4 3000 (motion Cancel 0 (at 0 540 1300 ∷ [])) ∷ says 3 2000 (motion Move 0 (at 0 540 1300 ∷ []))
    ∷ says 2 1000 (motion Down 0 (at 0 540 1200 ∷ [])) ∷ focused 1 0 true ∷ []
it_loses_the_finger_and_the_focus = refl

-- With a limit of one it has four messages to receive: those of one easing are two of them.
four_are_unreceived : unreceived after_it 1 ≡ 4
four_are_unreceived = refl

nobody_has_the_focus : focus (past_of after_it) 0 ≡ None
nobody_has_the_focus = refl

a_wall_stands_there : snapshot (past_of after_it) ≡ whole 65 0 ∷ []
a_wall_stands_there = refl

-- It receives the other four messages and finishes all but the last: it is choked still. Then it finishes that.
abbrev nearly : List Effect
nearly =
    extend one_display after_it
    (Receive 1 ∷ Receive 1 ∷ Receive 1 ∷ Receive 1 ∷ Finish 5000 1 1 ∷ Finish 5000 1 2 ∷ Finish 5000 1 3 ∷ Finish 5000 1 4 ∷ [])

one_is_unfinished : is_choked 1 1 one_client nearly 1 ≡ true
one_is_unfinished = refl

abbrev drained : List Effect
drained = extend one_display nearly (Finish 5000 1 5 ∷ [])

all_are_finished : is_choked 1 1 one_client drained 1 ≡ false
all_are_finished = refl

-- Its window and the focus are back, and nothing is sent of the finger that is still down.
abbrev back : List Effect
back = eased one_display 6000 (wants 0 false) drained

the_window_is_back : snapshot (past_of back) ≡ whole 1 0 ∷ []
the_window_is_back = refl

the_focus_is_back : focus (past_of back) 0 ≡ Some 1
the_focus_is_back = refl

the_last_message_is_the_focus : stream back 1 ≡ focused 6 6000 true ∷ stream after_it 1
the_last_message_is_the_focus = refl

-- where everything is shown and requested as it is wanted, nothing is done
nothing_is_done_then : eased one_display 7000 (wants 0 true) back ≡ back
nothing_is_done_then = refl

-- the wall of a spy, of flag 16, lets touches through, as the spy did
a_spy_lets_touches_through : map window_of (walled 2 (of_client 2 20 ∷ of_client 1 8 ∷ [])) ≡ whole 65 21 ∷ whole 1 8 ∷ []
a_spy_lets_touches_through = refl

-- and that of another window keeps its flags
another_keeps_its_flags : map window_of (walled 1 (of_client 2 20 ∷ of_client 1 8 ∷ [])) ≡ whole 2 20 ∷ whole 65 8 ∷ []
another_keeps_its_flags = refl

-- Of two clients, the first has requested the focus of display 0, and the second after it that of display 1.
abbrev second : Client
second = record { channel = 2; generation = 2 }

abbrev two : List Effect
two = run one_display (reverse (Open usual ∷ Open usual ∷ FocusOn 0 0 (Some 1) true ∷ FocusOn 0 1 (Some 2) true ∷ []))

abbrev both : (choked : ℕ) → Wanted
both choked = record { most = 1; windows = []; requested = Some first ∷ Some second ∷ None ∷ None ∷ []; choked = choked; is_shown = true }

-- The first is choked: nobody is to have the focus of display 0, and keys stay on display 1.
abbrev alone : List Effect
alone = eased one_display 10 (both 1) two

its_request_is_for_nobody : requested (past_of alone) 0 ≡ None
its_request_is_for_nobody = refl

the_other_request_stays : requested (past_of alone) 1 ≡ Some 2
the_other_request_stays = refl

keys_stay_on_its_display : asked (past_of alone) ≡ 1
keys_stay_on_its_display = refl

-- It is released: its request is made again, and keys stay there still.
its_request_is_back : requested (past_of (eased one_display 20 (both 0) alone)) 0 ≡ Some 1
its_request_is_back = refl

keys_stay_there_still : asked (past_of (eased one_display 20 (both 0) alone)) ≡ 1
keys_stay_there_still = refl

-- Shift is held in the window of channel 1 on display 0, as in the rows of a client that is closed. The client of channel 2, with a
-- window on display 1, is choked.
abbrev beside : List Effect
beside =
    eased two_displays 2000
    (record {
      most = 0;
      windows = by_client lower ∷ by_client upper ∷ [];
      requested = Some first ∷ Some second ∷ None ∷ None ∷ [];
      choked = 2;
      is_shown = false;
    })
    shift_held

its_own_request_is_for_nobody : requested (past_of beside) 1 ≡ None
its_own_request_is_for_nobody = refl

keys_go_where_they_went : asked (past_of beside) ≡ 0
keys_go_where_they_went = refl

shift_is_held_still : keys beside 1 ≡ shift true ∷ []
shift_is_held_still = refl

the_other_client_is_sent_nothing : stream beside 1 ≡ stream shift_held 1
the_other_client_is_sent_nothing = refl

-- A client that goes is wanted nowhere. Its window was shown, so the windows must be shown again.
nothing_is_wanted_for_it :
    without_client 1
    (record {
      most = 1;
      windows = of_client 2 0 ∷ of_client 1 0 ∷ [];
      requested = Some first ∷ Some second ∷ None ∷ Some first ∷ [];
      choked = 1;
      is_shown = true;
    })
    ≡ record { most = 1; windows = of_client 2 0 ∷ []; requested = None ∷ Some second ∷ None ∷ None ∷ []; choked = 1; is_shown = false }
nothing_is_wanted_for_it = refl

-- One without a window leaves them shown.
another_leaves_them_shown : without_client 3 (wants 0 true) ≡ wants 0 true
another_leaves_them_shown = refl

-- The client holds a key and has one message to receive, which is not too many. At a second the key would have been repeated
-- eleven times, at 501000 first.
abbrev key_held : List Effect
key_held =
    run one_display (reverse (Open usual ∷ Windows 0 (whole 1 0 ∷ []) ∷ FocusOn 0 0 (Some 1) true ∷ Receive 1 ∷ [] ++ dispatch 1000 (KeyArgs (key 30 30 true))))

the_first_repeat_is_due : next_due 1000000 key_held ≡ Some (Pump 501000)
the_first_repeat_is_due = refl

-- With that it has too many, so it is choked before the next one, and nothing is due any more.
abbrev repeated_once : List Effect
repeated_once = extend one_display key_held (Pump 501000 ∷ [])

one_repeat_is_too_many : is_choked 1 0 one_client repeated_once 1 ≡ true
one_repeat_is_too_many = refl

no_other_repeat_is_due : next_due 1000000 (eased one_display 1000000 (wants 1 false) repeated_once) ≡ None
no_other_repeat_is_due = refl
