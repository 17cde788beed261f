-- Worked examples: window 1 has the focus, and volume up of device 1 went down in it at 1,000,000. Channel 2 was removed.
use Rattle.std.proofs.Common.{◌≡◌, ℕ, Bool, true, false, ◌==◌, List, [], ◌∷◌, replicate, Option, Some, None, if◌then◌else◌, refl}
use Rattle.std.proofs.lemmas.Bool.{true≢false}
use Rattle.bits32.specs.Set.{members_below}
use Rattle.input_types.specs.declared.key.KeyArgs.{KeyArgs}
use Rattle.input_types.specs.declared.key.KeyMsg.{KeyMsg}
use Rattle.input_types.specs.declared.message.Args.{Args}
use Rattle.input_types.specs.declared.message.Args.TheVariants.{Key, Reset}
use Rattle.dispatcher.specs.CancelSynthesis.Tracked.{Tracked}
use Rattle.dispatcher.specs.InboundArgs.Kept.{DownSets as Down}
use Rattle.dispatcher.specs.InputChannel.State.{opened_with}
use Rattle.key_repeat.specs.Due.{Sent}
use Rattle.route_split.specs.Tables.{no_table}
use Rattle.dispatch_calls.specs.declared.call.Call.TheVariants.{Open, Notify, Pump, Tick, Receive, Finish, Pilfer, Remove}
use Rattle.dispatch_calls.specs.declared.reply.Reply.TheVariants.{Opened, Full, Taken, Inconsistent, Dispatched, Repeated, Idle, Named, Empty, Gone, UnknownSeq, NotSpy}
use Rattle.dispatch_history.specs.Effects.{step}
use Rattle.dispatcher.specs.DispatchChannels.Table.{unsent}
use Rattle.dispatcher.specs.Answered.{NeedNotWait}
use Rattle.dispatcher.specs.Queue.{waiting_after}
use Rattle.dispatcher.specs.Knows.{Kept}
use Rattle.dispatch_history.proofs.Worked.{usual}
use Rattle.dispatcher.specs.Replying.{reply_by}
use Rattle.dispatcher.specs.Sending.{sent_target, repeat_then}
use Rattle.dispatcher.specs.DispatchTables.Delivery.{none_noted}

abbrev volume_up : Bool → KeyArgs
volume_up down = record { device = 1; scan = 115; code = 24; meta = 0; down = down }

abbrev message : Bool → ℕ → ℕ → KeyMsg
message down flags repeat = record { key = volume_up down; flags = flags; repeat = repeat }

abbrev sent : ℕ → ℕ → Option Sent
sent repeat clock = Some (record { channel = 1; key = message true 0 repeat; clock = clock })

-- volume up is down on device 1, and nothing on the others: of scan code 115 it is bit 19 of the fourth set
abbrev down : List Down
down = record { ids = 0; keys = 0 ∷ 0 ∷ 0 ∷ 524288 ∷ [] } ∷ replicate 7 (record { ids = 0; keys = [] })

-- window 1 was sent the key
abbrev outgoing : ℕ → Tracked
outgoing w = if w == 1 then record { pointers = []; keys = message true 0 0 ∷ []; spare = 0 } else unsent

-- so many channels were opened, of which only the first is live, and these args wait
abbrev kept : ℕ → List Args → Kept
kept count waiting =
    record {
      queue = record { clock = 1000000; place = 5; waiting = waiting; spare = 0; pumps = 0; down = down };
      shown = record { windows = []; origins = [] };
      touches = replicate 8 no_table;
      covers = record { obscured = replicate 8 0; partly = replicate 8 0 };
      delivery = record { count = count; channel = λ c. opened_with usual; live = 1; able = 1; noted = none_noted };
      inputs = outgoing;
      focus = record { requested = Some 1 ∷ None ∷ None ∷ None ∷ []; last = 0; focusable = 1 ∷ 0 ∷ 0 ∷ 0 ∷ [] };
      repeat = sent 0 1000000;
    }

-- ---- what is answered

a_channel_is_opened : reply_by (kept 2 []) (Open usual) ≡ Opened 3
a_channel_is_opened = refl

no_more_than_64_are : reply_by (kept 64 []) (Open usual) ≡ Full
no_more_than_64_are = refl

a_repeat_is_not_due_yet : reply_by (kept 2 []) (Pump 1499999) ≡ Idle
a_repeat_is_not_due_yet = refl

it_is_due_half_a_second_after_the_down : reply_by (kept 2 []) (Pump 1500000) ≡ Repeated
it_is_due_half_a_second_after_the_down = refl

args_that_wait_come_first : reply_by (kept 2 (Reset 1 ∷ [])) (Pump 1500000) ≡ Dispatched
args_that_wait_come_first = refl

a_key_that_is_down_does_not_go_down : reply_by (kept 2 []) (Notify 1100000 (Key (volume_up true))) ≡ Inconsistent 0 true
unfolding members_below
a_key_that_is_down_does_not_go_down = refl

but_it_goes_up : reply_by (kept 2 []) (Notify 1100000 (Key (volume_up false))) ≡ Taken
but_it_goes_up = refl

a_tick_names_nobody_who_has_nothing : reply_by (kept 2 []) (Tick 99000000) ≡ Named 0
a_tick_names_nobody_who_has_nothing = refl

a_live_channel_has_no_message : reply_by (kept 2 []) (Receive 1) ≡ Empty
a_live_channel_has_no_message = refl

a_removed_one_is_gone : reply_by (kept 2 []) (Receive 2) ≡ Gone
a_removed_one_is_gone = refl

what_was_not_received_is_not_finished : reply_by (kept 2 []) (Finish 1100000 1 1) ≡ UnknownSeq
what_was_not_received_is_not_finished = refl

a_window_that_is_no_spy_does_not_pilfer : reply_by (kept 2 []) (Pilfer 1100000 1 1) ≡ NotSpy
a_window_that_is_no_spy_does_not_pilfer = refl

a_channel_is_removed_once : reply_by (kept 2 []) (Remove 1100000 2) ≡ Gone
a_channel_is_removed_once = refl

-- ---- what waits, and what is sent for keys

args_that_are_taken_wait_last : waiting_after (Notify 1100000 (Reset 2)) Taken (Reset 1 ∷ []) ≡ Reset 1 ∷ Reset 2 ∷ []
args_that_are_taken_wait_last = refl

args_that_are_refused_do_not_wait : waiting_after (Notify 1100000 (Reset 2)) (Inconsistent 0 false) (Reset 1 ∷ []) ≡ Reset 1 ∷ []
args_that_are_refused_do_not_wait = refl

the_first_ones_are_dispatched : waiting_after (Pump 1100000) Dispatched (Reset 1 ∷ Reset 2 ∷ []) ≡ Reset 2 ∷ []
the_first_ones_are_dispatched = refl

a_reset_that_waits_first_cancels : sent_target (Pump 1100000) Dispatched (kept 2 (Reset 1 ∷ [])) (kept 2 []).focus 1 ≡ message false 32 0 ∷ []
a_reset_that_waits_first_cancels = refl

a_repeat_is_the_next_one : sent_target (Pump 1500000) Repeated (kept 2 []) (kept 2 []).focus 1 ≡ message true 0 1 ∷ []
a_repeat_is_the_next_one = refl

and_is_kept : repeat_then (Some 1) 1 1500000 (message true 0 1 ∷ []) (sent 0 1000000) ≡ sent 1 1500000
and_is_kept = refl

a_removed_target_leaves_no_repeat : repeat_then (Some 1) 0 1500000 [] (sent 0 1000000) ≡ None
a_removed_target_leaves_no_repeat = refl

-- ---- which args need not wait

a_first_key_need_not_wait : NeedNotWait [] 1000000 (Key (volume_up true))
unfolding members_below
a_first_key_need_not_wait = (refl, refl)

an_up_of_a_key_that_is_not_down_may_not_come : NeedNotWait [] 1000000 (Key (volume_up false)) → ⊥
unfolding members_below
an_up_of_a_key_that_is_not_down_may_not_come need = absurd (cc need.1)

nor_may_args_come_before_those_that_wait : NeedNotWait (step (replicate 8 0) (Notify 1000000 (Reset 1)) Taken []) 1000000 (Reset 2) → ⊥
nor_may_args_come_before_those_that_wait need = absurd (true≢false need.0)
