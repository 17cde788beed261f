-- Worked examples: what is kept of a channel, step by step.
use Rattle.std.specs.Prelude.{◌≡◌, true, false, List, [], ◌∷◌, ◌++◌, reverse, Some, None, refl}
use Rattle.input_types.specs.declared.motion.MotionAction.TheVariants.{Down, Move}
use Rattle.dispatch_calls.specs.declared.call.Call.{Call}
use Rattle.dispatch_calls.specs.declared.call.Call.TheVariants.{Open, Windows, Tick, Receive, Finish, Remove}
use Rattle.dispatch_calls.specs.declared.reply.Reply.TheVariants.{Opened, Done, Named}
use Rattle.dispatch_history.specs.Effect.{Effect}
use Rattle.dispatch_history.specs.Due.{first_due}
use Rattle.dispatch_history.specs.Legal.{run}
use Rattle.dispatch_history.proofs.Worked.{usual, one_display, window, at, motion, moved, says}
use Rattle.dispatcher.specs.InputChannel.State.{ChannelState}
use Rattle.dispatcher.specs.DispatchTables.Channel.{channel_at, part_of, Finishes, Untouched}
use Rattle.dispatcher.specs.DispatchTables.Masks.{live_mask_after, able_mask_after}
use Rattle.dispatcher.specs.DispatchTables.Dues.{due_moment, due_in, anrs_in}

-- A window is sent a down and a move, and its owner receives the down.
abbrev two_sent : List Call
two_sent =
    Open usual ∷ Windows 0 (window 1 0 0 0 1080 2400 ∷ []) ∷ [] ++ moved 0 Down 0 (at 0 540 1200 ∷ []) ++ moved 1000000 Move 0 (at 0 550 1200 ∷ [])
    ++ Receive 1 ∷ []

abbrev after_calls : List Call → List Effect
after_calls calls = run one_display (reverse calls)

abbrev one_received : ChannelState
one_received =
    record {
      terms = usual;
      gone = 1;
      messages = says 2 1000000 (motion Move 0 (at 0 550 1200 ∷ [])) ∷ [];
      published = 2;
      received = 1;
      finished = 0;
      unfinished = record { seq = 1; delivery = 0 } ∷ record { seq = 2; delivery = 1000000 } ∷ [];
      spare = 4;
    }

the_down_is_received_and_released : channel_at (after_calls two_sent) 1 1 4 ≡ one_received
the_down_is_received_and_released = refl

it_is_due_by_the_down : due_moment (after_calls two_sent) 1 ≡ Some 5000000
it_is_due_by_the_down = refl

and_so_it_is_by_what_is_kept : due_in true one_received ≡ Some 5000000
and_so_it_is_by_what_is_kept = refl

-- Then the down is finished.
abbrev one_finished : ChannelState
one_finished =
    record {
      terms = usual;
      gone = 1;
      messages = says 2 1000000 (motion Move 0 (at 0 550 1200 ∷ [])) ∷ [];
      published = 2;
      received = 1;
      finished = 1;
      unfinished = record { seq = 2; delivery = 1000000 } ∷ [];
      spare = 4;
    }

the_down_is_finished : channel_at (after_calls (two_sent ++ Finish 3000000 1 1 ∷ [])) 1 1 4 ≡ one_finished
the_down_is_finished = refl

it_is_first_due_by_the_move : first_due (after_calls (two_sent ++ Finish 3000000 1 1 ∷ [])) ≡ Some (record { moment = 6000000; channel = 1 })
it_is_first_due_by_the_move = refl

-- Instead, a tick at 5000000 reports it, and then it is not due.
a_named_channel_is_not_due : due_moment (after_calls (two_sent ++ Tick 5000000 ∷ [])) 1 ≡ None
a_named_channel_is_not_due = refl

what_the_tick_notes : anrs_in 5000000 1 (λ c. one_received) 1 ≡ record { clock = 5000000; channel = 1; seq = 1 } ∷ []
what_the_tick_notes = refl

-- parts, and masks of the channels 1 and 3
the_part_of_a_finish : part_of (Finish 3000000 1 7) Done 1 ≡ Finishes 7
the_part_of_a_finish = refl

none_of_another_channel : part_of (Finish 3000000 1 7) Done 2 ≡ Untouched
none_of_another_channel = refl

a_fourth_channel_is_opened : live_mask_after (Open usual) (Opened 4) 0b0101 ≡ 0b1101
a_fourth_channel_is_opened = refl

the_third_is_removed : live_mask_after (Remove 0 3) Done 0b0101 ≡ 0b0001
the_third_is_removed = refl

both_are_named : able_mask_after (Tick 0) (Named 0b0101) (λ c. false) 0b0101 ≡ 0
both_are_named = refl

a_finish_makes_it_able : able_mask_after (Finish 0 3 1) Done (λ c. false) 0b0001 ≡ 0b0101
a_finish_makes_it_able = refl

not_while_a_message_is_late : able_mask_after (Finish 0 3 1) Done (λ c. true) 0b0001 ≡ 0b0001
not_while_a_message_is_late = refl
