-- Worked examples: a finger becomes a palm, and its device cancels it.
use Rattle.std.specs.Prelude.{◌≡◌, false, List, [], ◌∷◌, ◌++◌, refl}
use Rattle.input_types.specs.declared.message.Args.TheVariants.{Motion as MotionArgs}
use Rattle.input_types.specs.declared.motion.MotionAction.TheVariants.{Down, Up, Move, Cancel, PointerDown, PointerUp}
use Rattle.dispatch_calls.specs.declared.call.Call.{Call}
use Rattle.dispatch_calls.specs.declared.call.Call.TheVariants.{Open, Windows, Notify}
use Rattle.dispatch_calls.specs.declared.reply.Reply.TheVariants.{Opened, Taken, Dispatched, Inconsistent}
use Rattle.dispatch_history.proofs.Worked.{usual, window, at, motion, cancelled, dispatch, moved, says, open_two, stream_of, replies_of}

-- Two fingers are down on one window. The second becomes a palm, the first moves, and then becomes a palm too.
abbrev two_palms : List Call
two_palms =
    Open usual ∷ Windows 0 (window 1 0 0 0 1080 2400 ∷ []) ∷ []
    ++ moved 1000 Down 0 (at 0 100 200 ∷ []) ++ moved 1000 PointerDown 1 (at 0 100 200 ∷ at 1 300 400 ∷ [])
    ++ dispatch 2000 (MotionArgs (cancelled PointerUp 1 (at 0 100 200 ∷ at 1 300 400 ∷ [])))
    ++ moved 3000 Move 0 (at 0 100 200 ∷ []) ++ moved 4000 Cancel 0 (at 0 100 200 ∷ [])

a_palm_is_cancelled_and_the_last_one_with_a_cancel :
    stream_of two_palms 1
    ≡ says 1 1000 (motion Down 0 (at 0 100 200 ∷ []))
    ∷ says 2 1000 (motion PointerDown 1 (at 0 100 200 ∷ at 1 300 400 ∷ []))
    ∷ says 3 2000 (cancelled PointerUp 1 (at 0 100 200 ∷ at 1 300 400 ∷ []))
    ∷ says 4 3000 (motion Move 0 (at 0 100 200 ∷ [])) ∷ says 5 4000 (motion Cancel 0 (at 0 100 200 ∷ [])) ∷ []
a_palm_is_cancelled_and_the_last_one_with_a_cancel = refl

-- A finger is down on each of two windows. The one on the right becomes a palm, and then the one on the left goes up.
abbrev palm_on_the_right : List Call
palm_on_the_right =
    open_two ++ Windows 0 (window 1 0 0 0 540 2400 ∷ window 2 0 540 0 1080 2400 ∷ []) ∷ []
    ++ moved 1000000 Down 0 (at 0 100 200 ∷ []) ++ moved 1010000 PointerDown 1 (at 0 100 200 ∷ at 1 700 400 ∷ [])
    ++ dispatch 1015000 (MotionArgs (cancelled PointerUp 1 (at 0 100 200 ∷ at 1 700 400 ∷ [])))
    ++ moved 1020000 Up 0 (at 0 100 200 ∷ [])

a_palm_of_another_window_is_sent_as_a_move :
    stream_of palm_on_the_right 1
    ≡ says 1 1000000 (motion Down 0 (at 0 100 200 ∷ [])) ∷ says 2 1010000 (motion Move 0 (at 0 100 200 ∷ []))
    ∷ says 3 1015000 (motion Move 0 (at 0 100 200 ∷ [])) ∷ says 4 1020000 (motion Up 0 (at 0 100 200 ∷ [])) ∷ []
a_palm_of_another_window_is_sent_as_a_move = refl

the_only_pointer_of_a_window_is_cancelled_as_one :
    stream_of palm_on_the_right 2
    ≡ says 1 1010000 (motion Down 0 (at 1 160 400 ∷ [])) ∷ says 2 1015000 (motion Cancel 0 (at 1 160 400 ∷ [])) ∷ []
the_only_pointer_of_a_window_is_cancelled_as_one = refl

-- a device cancels one pointer after the other: a Cancel of both ids 0 and 1 is refused
a_cancel_of_two_pointers_is_refused :
    replies_of
    (open_two ++ moved 1000 Down 0 (at 0 100 200 ∷ []) ++ moved 1000 PointerDown 1 (at 0 100 200 ∷ at 1 300 400 ∷ [])
    ++ Notify 2000 (MotionArgs (motion Cancel 0 (at 0 100 200 ∷ at 1 300 400 ∷ []))) ∷ [])
    ≡ Opened 1 ∷ Opened 2 ∷ Taken ∷ Dispatched ∷ Taken ∷ Dispatched ∷ Inconsistent 3 false ∷ []
a_cancel_of_two_pointers_is_refused = refl
