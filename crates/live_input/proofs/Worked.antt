-- Two clients of one channel, one after the other: what the second one is sent, worked out by hand.
use Rattle.std.proofs.Common.{◌≡◌, List, [], ◌∷◌, ◌++◌, reverse, refl}
use Rattle.input_types.specs.declared.motion.MotionAction.TheVariants.{Down, Up}
use Rattle.window_snapshot.specs.declared.window.Window.{Window}
use Rattle.dispatch_calls.specs.declared.call.Call.{Call}
use Rattle.dispatch_calls.specs.declared.call.Call.TheVariants.{Open, Windows, Receive, Finish}
use Rattle.dispatch_history.specs.Effect.{Effect, stream}
use Rattle.dispatch_history.specs.Legal.{run}
use Rattle.dispatch_history.proofs.Worked.{usual, at, motion, moved, one_display, says, window}
use Rattle.live_input.specs.Options.{no_options}
use Rattle.live_input.specs.Outgoing.{sent_since}
use Rattle.live_input.specs.Seats.{taken_by}
use Rattle.live_input.specs.Taking.{TakeAll}

abbrev shown : Window
shown = window 1 0 0 0 1080 2400

-- The first client is closed while a finger is down in its window. The second one is opened on the channel, the finger is lifted, and another
-- one goes down.
abbrev closed_under_a_finger : List Call
closed_under_a_finger =
    Open usual ∷ Windows 0 (shown ∷ []) ∷ [] ++ moved 1000 Down 0 (at 0 540 1200 ∷ [])
    ++ Windows 2000 [] ∷ Receive 1 ∷ Finish 2000 1 1 ∷ Receive 1 ∷ Finish 2000 1 2 ∷ Windows 3000 (shown ∷ []) ∷ []
    ++ moved 4000 Up 0 (at 0 540 1200 ∷ []) ++ moved 5000 Down 0 (at 0 100 200 ∷ [])

the_second_client_gets_its_own_finger_alone :
    sent_since (taken_by 2 2 no_options) (stream (run one_display (reverse closed_under_a_finger)) 1)
    ≡ says 1 5000 (motion Down 0 (at 0 100 200 ∷ [])) ∷ []
the_second_client_gets_its_own_finger_alone = refl

-- The same finger, and the calls that close the first client: its window goes, and it is handed and finishes the DOWN and the CANCEL.
abbrev under_a_finger : List Effect
under_a_finger = run one_display (reverse (Open usual ∷ Windows 0 (shown ∷ []) ∷ [] ++ moved 1000 Down 0 (at 0 540 1200 ∷ [])))

abbrev closing : List Call
closing = Windows 2000 [] ∷ Receive 1 ∷ Finish 2000 1 1 ∷ Receive 1 ∷ Finish 2000 1 2 ∷ []

each_call_of_a_close_takes_something : TakeAll one_display 2000 1 under_a_finger closing
each_call_of_a_close_takes_something = ((refl, refl), (refl, ((refl, refl), (refl, ((refl, refl), tt)))))
