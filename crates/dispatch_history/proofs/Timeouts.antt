-- Worked examples: windows that do not respond, and messages that are finished out of order.
use Rattle.std.specs.Prelude.{ℕ, zero, suc, ◌≡◌, true, false, List, [], ◌∷◌, ◌++◌, take, drop, refl, replicate, reverse}
use Rattle.input_types.specs.declared.message.Args.TheVariants.{Motion as MotionArgs}
use Rattle.input_types.specs.declared.message.Message.{Message}
use Rattle.input_types.specs.declared.motion.MotionAction.TheVariants.{Down, Up, Move, Cancel}
use Rattle.dispatch_calls.specs.declared.call.Call.{Call}
use Rattle.dispatch_calls.specs.declared.call.Call.TheVariants.{Open, Windows, Notify, Tick, Receive, Finish, Pilfer, Remove}
use Rattle.dispatch_calls.specs.declared.reply.Reply.{Reply}
use Rattle.dispatch_calls.specs.declared.reply.Reply.TheVariants.{Opened, Done, Taken, Inconsistent, Dispatched, Named, Got, Empty, Gone, UnknownSeq, NothingHeld}
use Rattle.dispatch_history.specs.History.{clock}
use Rattle.dispatch_history.specs.Delivery.{able, delivery}
use Rattle.dispatch_history.specs.Legal.{run, replay}
use Rattle.dispatch_history.proofs.Worked.{usual, one_display, window, at, motion, moved, says, stream_of, replies_of}

abbrev whole : List Call
whole = Open usual ∷ Windows 0 (window 1 0 0 0 1080 2400 ∷ []) ∷ []

abbrev finger : ℕ → ℕ → ℕ → Message
finger seq now x = says seq now (motion Down 0 (at 0 x 1200 ∷ []))

-- A window receives a down and leaves it unfinished.
abbrev left_unfinished : List Call
left_unfinished =
    whole ++ moved 0 Down 0 (at 0 540 1200 ∷ []) ++ Receive 1 ∷ Tick 4999999 ∷ Tick 5000000 ∷ Tick 6000000 ∷ Receive 1 ∷ []
    ++ Finish 6000000 1 1 ∷ Finish 6000000 1 1 ∷ []

a_window_is_named_at_its_limit_and_once :
    replies_of left_unfinished
    ≡ Opened 1 ∷ Done ∷ Taken ∷ Dispatched ∷ Got (finger 1 0 540) ∷ Named 0 ∷ Named 1 ∷ Named 0
    ∷ Got (says 2 5000000 (motion Cancel 0 (at 0 540 1200 ∷ []))) ∷ Done ∷ UnknownSeq ∷ []
a_window_is_named_at_its_limit_and_once = refl

a_named_window_loses_its_pointers :
    stream_of left_unfinished 1 ≡ finger 1 0 540 ∷ says 2 5000000 (motion Cancel 0 (at 0 540 1200 ∷ [])) ∷ []
a_named_window_loses_its_pointers = refl

a_finish_that_leaves_nothing_late_makes_it_able : able (run one_display (reverse left_unfinished)) 1 ≡ true
a_finish_that_leaves_nothing_late_makes_it_able = refl

-- 64 messages may be published and unfinished; the next one is published, and so delivered, when one is finished.
abbrev moves : ℕ → List Call
moves zero = []
moves (suc n) = moves n ++ moved 1000 Move 0 (at 0 540 1200 ∷ [])

abbrev many : List Call
many = whole ++ moved 0 Down 0 (at 0 540 1200 ∷ []) ++ moves 64

abbrev many_moves : ℕ → Message
many_moves seq = says seq 1000 (motion Move 0 (at 0 540 1200 ∷ []))

abbrev many_got : ℕ → List Reply
many_got zero = []
many_got (suc zero) = Got (finger 1 0 540) ∷ []
many_got (suc (suc n)) = many_got (suc n) ++ Got (many_moves (suc (suc n))) ∷ []

the_65th_message_waits_for_a_finish :
    drop 132 (replies_of (many ++ replicate 65 (Receive 1) ++ Finish 2000 1 40 ∷ Receive 1 ∷ []))
    ≡ many_got 64 ++ Empty ∷ Done ∷ Got (many_moves 65) ∷ []
the_65th_message_waits_for_a_finish = refl

its_delivery_is_the_clock_of_the_finish : delivery (run one_display (reverse (many ++ replicate 65 (Receive 1) ++ Finish 2000 1 40 ∷ []))) 1 65 ≡ 2000
its_delivery_is_the_clock_of_the_finish = refl

-- Messages are finished out of order, and a window responds again.
abbrev out_of_order : List Call
out_of_order =
    whole ++ moved 0 Down 0 (at 0 540 1200 ∷ []) ++ moved 1000000 Move 0 (at 0 550 1200 ∷ []) ++ Receive 1 ∷ Receive 1 ∷ []
    ++ Finish 1000000 1 0 ∷ Finish 1000000 1 3 ∷ Tick 5000000 ∷ Finish 5000000 1 2 ∷ []
    ++ moved 5400000 Up 0 (at 0 550 1200 ∷ []) ++ moved 5500000 Down 0 (at 0 100 100 ∷ []) ++ Finish 6000000 1 1 ∷ []
    ++ moved 6000000 Up 0 (at 0 100 100 ∷ []) ++ moved 6100000 Down 0 (at 0 200 200 ∷ [])

an_unresponsive_window_is_sent_nothing_new :
    stream_of out_of_order 1
    ≡ finger 1 0 540 ∷ says 2 1000000 (motion Move 0 (at 0 550 1200 ∷ [])) ∷ says 3 5000000 (motion Cancel 0 (at 0 550 1200 ∷ []))
    ∷ says 4 6100000 (motion Down 0 (at 0 200 200 ∷ [])) ∷ []
an_unresponsive_window_is_sent_nothing_new = refl

only_what_was_received_can_be_finished :
    replies_of (take 12 out_of_order)
    ≡ Opened 1 ∷ Done ∷ Taken ∷ Dispatched ∷ Taken ∷ Dispatched ∷ Got (finger 1 0 540)
    ∷ Got (says 2 1000000 (motion Move 0 (at 0 550 1200 ∷ []))) ∷ UnknownSeq ∷ UnknownSeq ∷ Named 1 ∷ Done ∷ []
only_what_was_received_can_be_finished = refl

it_is_unresponsive_while_its_oldest_message_is_late : able (run one_display (reverse (take 12 out_of_order))) 1 ≡ false
it_is_unresponsive_while_its_oldest_message_is_late = refl

it_is_able_once_nothing_is_late : able (run one_display (reverse (take 17 out_of_order))) 1 ≡ true
it_is_able_once_nothing_is_late = refl

-- The channel is removed after n of these calls: its stream is that of the calls before, whatever comes after.
abbrev removed_after : ℕ → List Call
removed_after n = take n out_of_order ++ Remove 6200000 1 ∷ drop n out_of_order

removed_with_a_finger_down : stream_of (removed_after 4) 1 ≡ finger 1 0 540 ∷ []
removed_with_a_finger_down = refl

removed_when_it_was_named :
    stream_of (removed_after 11) 1
    ≡ finger 1 0 540 ∷ says 2 1000000 (motion Move 0 (at 0 550 1200 ∷ [])) ∷ says 3 5000000 (motion Cancel 0 (at 0 550 1200 ∷ [])) ∷ []
removed_when_it_was_named = refl

-- calls on it then reply Gone
removed_after_the_first_message :
    drop 4 (replies_of (take 4 out_of_order ++ Remove 0 1 ∷ Receive 1 ∷ Finish 0 1 1 ∷ Pilfer 0 1 1 ∷ Remove 0 1 ∷ []))
    ≡ Done ∷ Gone ∷ Gone ∷ Gone ∷ Gone ∷ []
removed_after_the_first_message = refl

-- A spy that was reported before it pilfers holds nothing.
abbrev named_spy : List Call
named_spy =
    Open usual ∷ Windows 0 (window 1 16 0 0 1080 2400 ∷ []) ∷ [] ++ moved 0 Down 0 (at 0 540 1200 ∷ []) ++ Tick 5000000 ∷ Pilfer 5000000 1 1 ∷ []

a_named_spy_has_nothing_to_pilfer : drop 4 (replies_of named_spy) ≡ Named 1 ∷ NothingHeld ∷ []
a_named_spy_has_nothing_to_pilfer = refl

-- Two channels and no window. A motion of a finger that is not down is refused, but still advances the clock.
a_refused_call_raises_the_clock :
    clock (replay one_display (reverse (Open usual ∷ Open usual ∷ Notify 9000000 (MotionArgs (motion Move 0 (at 0 1 1 ∷ []))) ∷ []))) ≡ 9000000
a_refused_call_raises_the_clock = refl

a_move_of_nothing_is_refused :
    replies_of (Open usual ∷ Open usual ∷ Notify 9000000 (MotionArgs (motion Move 0 (at 0 1 1 ∷ []))) ∷ Open usual ∷ [])
    ≡ Opened 1 ∷ Opened 2 ∷ Inconsistent 0 false ∷ Opened 3 ∷ []
a_move_of_nothing_is_refused = refl

-- so a tick with no later moment reports by that clock
abbrev named_by_the_clock : List Call
named_by_the_clock =
    whole ++ moved 0 Down 0 (at 0 540 1200 ∷ []) ++ Tick 0 ∷ Notify 9000000 (MotionArgs (motion Move 0 [])) ∷ Tick 0 ∷ []

a_tick_reads_the_clock : drop 4 (replies_of named_by_the_clock) ≡ Named 0 ∷ Inconsistent 1 false ∷ Named 1 ∷ []
a_tick_reads_the_clock = refl
