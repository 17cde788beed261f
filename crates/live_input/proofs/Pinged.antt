-- What the answer to a ping finishes, worked out by hand.
use Rattle.std.proofs.Common.{◌≡◌, List, [], ◌∷◌, ◌++◌, reverse, None, refl}
use Rattle.input_types.specs.declared.motion.MotionAction.TheVariants.{Down, Move}
use Rattle.dispatch_calls.specs.declared.call.Call.{Call}
use Rattle.dispatch_calls.specs.declared.call.Call.TheVariants.{Open, Windows, Receive, Finish}
use Rattle.dispatch_history.specs.Effect.{Effect}
use Rattle.dispatch_history.specs.Legal.{run}
use Rattle.dispatch_history.specs.Ordered.{extend}
use Rattle.dispatch_history.proofs.Worked.{usual, at, moved, one_display, window}
use Rattle.live_input.specs.Settling.{Follows}
use Rattle.live_input.specs.Through.{next_through}

-- A finger goes down, moves, and moves again. The client receives the first three messages and finishes the second.
abbrev received_three : List Effect
received_three =
    run one_display
    (reverse
    (Open usual ∷ Windows 0 (window 1 0 0 0 1080 2400 ∷ []) ∷ []
    ++ moved 1000 Down 0 (at 0 540 1200 ∷ [])
    ++ moved 2000 Move 0 (at 0 541 1200 ∷ [])
    ++ moved 3000 Move 0 (at 0 542 1200 ∷ [])
    ++ moved 4000 Move 0 (at 0 543 1200 ∷ [])
    ++ Receive 1 ∷ Receive 1 ∷ Receive 1 ∷ Finish 4000 1 2 ∷ []))

abbrev answered_ping : List Call
answered_ping = Finish 6000 1 1 ∷ Finish 6000 1 3 ∷ []

-- It answers a ping that was sent to it after the third one: that finishes the first and the third, and leaves the fourth.
a_pong_finishes_what_was_sent_before_its_ping : Follows (next_through 6000 1 3) one_display received_three answered_ping
a_pong_finishes_what_was_sent_before_its_ping = (refl, (refl, tt))

then_nothing_is_left_up_to_it : next_through 6000 1 3 (extend one_display received_three answered_ping) ≡ None
then_nothing_is_left_up_to_it = refl
