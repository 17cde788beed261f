-- Worked examples: pilfering spies, windows that disappear, removed channels, and a device that is reset.
use Rattle.std.specs.Prelude.{◌≡◌, false, List, [], ◌∷◌, ◌++◌, replicate, drop, refl}
use Rattle.input_types.specs.declared.message.Args.TheVariants.{Motion as MotionArgs, Reset}
use Rattle.input_types.specs.declared.motion.MotionAction.TheVariants.{Down, Up, Move, Cancel, PointerDown, PointerUp}
use Rattle.dispatch_calls.specs.declared.call.Call.{Call}
use Rattle.dispatch_calls.specs.declared.call.Call.TheVariants.{Open, Windows, Notify, Pump, Receive, Finish, Pilfer, Remove}
use Rattle.dispatch_calls.specs.declared.reply.Reply.TheVariants.{Opened, Full, Done, Taken, Inconsistent, Dispatched, Gone, NotSpy, NothingHeld}
use Rattle.dispatch_history.proofs.Worked.{usual, window, window_of, rectangle, at, motion, cancelled, moved, says, open_two, stream_of, replies_of}

-- Channel 1 is a spy over the upper half of channel 2 (16 is SPY). One finger goes down under the spy, one below it; the spy pilfers;
-- the first finger goes up, and a third comes down below the spy.
abbrev pilfered : List Call
pilfered =
    open_two ++ Windows 0 (window 1 16 0 0 1080 1200 ∷ window 2 0 0 0 1080 2400 ∷ []) ∷ []
    ++ moved 1000 Down 0 (at 0 100 100 ∷ []) ++ moved 2000 PointerDown 1 (at 0 100 100 ∷ at 1 100 2000 ∷ [])
    ++ Pilfer 3000 1 1 ∷ []
    ++ moved 4000 PointerUp 0 (at 0 100 100 ∷ at 1 100 2000 ∷ [])
    ++ Pilfer 5000 1 1 ∷ []
    ++ moved 6000 PointerDown 0 (at 0 200 2000 ∷ at 1 100 2000 ∷ [])
    ++ Pilfer 7000 2 1 ∷ []

what_a_pilfer_leaves_to_the_window :
    stream_of pilfered 2
    ≡ says 1 1000 (motion Down 0 (at 0 100 100 ∷ []))
    ∷ says 2 2000 (motion PointerDown 1 (at 0 100 100 ∷ at 1 100 2000 ∷ []))
    ∷ says 3 3000 (cancelled PointerUp 0 (at 0 100 100 ∷ at 1 100 2000 ∷ []))
    ∷ says 4 4000 (motion Move 0 (at 1 100 2000 ∷ []))
    ∷ says 5 6000 (motion PointerDown 0 (at 0 200 2000 ∷ at 1 100 2000 ∷ [])) ∷ []
what_a_pilfer_leaves_to_the_window = refl

the_spy_keeps_its_own_pointer :
    stream_of pilfered 1
    ≡ says 1 1000 (motion Down 0 (at 0 100 100 ∷ [])) ∷ says 2 2000 (motion Move 0 (at 0 100 100 ∷ []))
    ∷ says 3 4000 (motion Up 0 (at 0 100 100 ∷ [])) ∷ []
the_spy_keeps_its_own_pointer = refl

a_pilfer_needs_a_spy_that_holds_something :
    replies_of pilfered
    ≡ Opened 1 ∷ Opened 2 ∷ Done ∷ Taken ∷ Dispatched ∷ Taken ∷ Dispatched ∷ Done ∷ Taken ∷ Dispatched ∷ NothingHeld ∷ Taken ∷ Dispatched
    ∷ NotSpy ∷ []
a_pilfer_needs_a_spy_that_holds_something = refl

-- Three fingers on channel 2, the first and the third under the spy of channel 1, which has two rectangles.
abbrev pilfered_in_part : List Call
pilfered_in_part =
    open_two ++ Windows 0 (window_of 1 16 (rectangle 0 0 2 2 ∷ rectangle 3 3 4 4 ∷ []) ∷ window 2 0 0 0 1080 2400 ∷ []) ∷ []
    ++ moved 1000 Down 0 (at 0 1 1 ∷ []) ++ moved 1000 PointerDown 1 (at 0 1 1 ∷ at 1 2 2 ∷ [])
    ++ moved 1000 PointerDown 2 (at 0 1 1 ∷ at 1 2 2 ∷ at 2 3 3 ∷ []) ++ Pilfer 2000 1 1 ∷ []

a_part_is_cancelled_pointer_by_pointer :
    stream_of pilfered_in_part 2
    ≡ says 1 1000 (motion Down 0 (at 0 1 1 ∷ [])) ∷ says 2 1000 (motion PointerDown 1 (at 0 1 1 ∷ at 1 2 2 ∷ []))
    ∷ says 3 1000 (motion PointerDown 2 (at 0 1 1 ∷ at 1 2 2 ∷ at 2 3 3 ∷ []))
    ∷ says 4 2000 (cancelled PointerUp 0 (at 0 1 1 ∷ at 1 2 2 ∷ at 2 3 3 ∷ []))
    ∷ says 5 2000 (cancelled PointerUp 1 (at 1 2 2 ∷ at 2 3 3 ∷ [])) ∷ []
a_part_is_cancelled_pointer_by_pointer = refl

-- A window disappears and comes back while a finger is on it.
abbrev windows_go : List Call
windows_go =
    Open usual ∷ Windows 0 (window 1 0 0 0 1080 2400 ∷ []) ∷ [] ++ moved 1000000 Down 0 (at 0 540 1200 ∷ [])
    ++ Windows 1100000 [] ∷ Windows 1200000 (window 1 0 0 0 1080 2400 ∷ []) ∷ []
    ++ moved 1300000 Move 0 (at 0 540 1200 ∷ []) ++ moved 1400000 Up 0 (at 0 540 1200 ∷ []) ++ moved 1500000 Down 0 (at 0 540 1200 ∷ [])

coming_back_gives_nothing_back :
    stream_of windows_go 1
    ≡ says 1 1000000 (motion Down 0 (at 0 540 1200 ∷ [])) ∷ says 2 1100000 (motion Cancel 0 (at 0 540 1200 ∷ []))
    ∷ says 3 1500000 (motion Down 0 (at 0 540 1200 ∷ [])) ∷ []
coming_back_gives_nothing_back = refl

-- A channel is removed while a finger is on its window.
abbrev removed : List Call
removed =
    Open usual ∷ Windows 0 (window 1 0 0 0 1080 2400 ∷ []) ∷ [] ++ moved 1000 Down 0 (at 0 540 1200 ∷ [])
    ++ Remove 2000 1 ∷ Receive 1 ∷ Finish 3000 1 1 ∷ Pilfer 3000 1 1 ∷ Remove 3000 1 ∷ []

a_removed_channel_is_sent_nothing_more : stream_of removed 1 ≡ says 1 1000 (motion Down 0 (at 0 540 1200 ∷ [])) ∷ []
a_removed_channel_is_sent_nothing_more = refl

a_removed_channel_is_gone : replies_of removed ≡ Opened 1 ∷ Done ∷ Taken ∷ Dispatched ∷ Done ∷ Gone ∷ Gone ∷ Gone ∷ Gone ∷ []
a_removed_channel_is_gone = refl

-- Two fingers are down when the device loses events and is reset.
abbrev reset : List Call
reset =
    Open usual ∷ Windows 0 (window 1 0 0 0 1080 2400 ∷ []) ∷ [] ++ moved 1000 Down 0 (at 0 100 200 ∷ [])
    ++ moved 1000 PointerDown 1 (at 0 100 200 ∷ at 1 300 400 ∷ []) ++ Notify 9000 (Reset 1) ∷ Pump 9000 ∷ []
    ++ Notify 9500 (MotionArgs (motion PointerUp 0 (at 0 100 200 ∷ at 1 300 400 ∷ []))) ∷ []

a_reset_cancels_all :
    stream_of reset 1
    ≡ says 1 1000 (motion Down 0 (at 0 100 200 ∷ [])) ∷ says 2 1000 (motion PointerDown 1 (at 0 100 200 ∷ at 1 300 400 ∷ []))
    ∷ says 3 9000 (motion Cancel 0 (at 0 100 200 ∷ at 1 300 400 ∷ [])) ∷ []
a_reset_cancels_all = refl

an_up_after_a_reset_is_refused : replies_of reset ≡ Opened 1 ∷ Done ∷ Taken ∷ Dispatched ∷ Taken ∷ Dispatched ∷ Taken ∷ Dispatched ∷ Inconsistent 0 false ∷ []
an_up_after_a_reset_is_refused = refl

-- 64 channels are opened, and one of them is removed: its number is not used again.
abbrev sixty_four : List Call
sixty_four = replicate 64 (Open usual) ++ Remove 0 1 ∷ Open usual ∷ []

no_65th_channel : drop 63 (replies_of sixty_four) ≡ Opened 64 ∷ Done ∷ Full ∷ []
no_65th_channel = refl
