-- A race, worked out: a tap on the one window that the script lane shows, whose owner finishes what it is given.
use Rattle.std.specs.Prelude.{ℕ, ◌≡◌, true, false, List, [], ◌∷◌, map, reverse, take, drop, Ok, Err, refl}
use Rattle.input_types.specs.declared.message.Args.TheVariants.{Motion as MotionArgs}
use Rattle.input_types.specs.declared.motion.MotionAction.TheVariants.{Down}
use Rattle.dispatch_calls.specs.declared.call.Call.{Call}
use Rattle.dispatch_calls.specs.declared.call.Call.TheVariants.{Open, Windows, Notify, Pump, Tick, Receive, Finish}
use Rattle.dispatch_calls.specs.declared.call.Entry.{Entry}
use Rattle.dispatch_calls.specs.declared.reply.Reply.{Reply}
use Rattle.dispatch_calls.specs.declared.reply.Reply.TheVariants.{Opened, Done, Taken, Dispatched, Idle, Named, Got, Empty}
use Rattle.dispatch_history.specs.Given.{given_calls}
use Rattle.dispatch_history.specs.Legal.{replay}
use Rattle.dispatch_history.specs.Plan.{Plan}
use Rattle.dispatch_history.proofs.Worked.{usual, one_display, window, at, motion, says}
use Rattle.dispatch_core.specs.Machine.{called}
use Rattle.dispatch_core.specs.Recorded.{history_of}
use Rattle.stream_text.specs.OrderHistory.{order_of_history}
use Rattle.stream_text.specs.declared.order_line.OrderLine.{OrderLine}
use Rattle.stream_text.specs.declared.order_line.OrderLine.TheVariants as words
use Rattle.turnstile.specs.History.{calls_by}
use Rattle.replay_actors.specs.Counting.{ticks, moves, idles}
use Rattle.replay_actors.specs.Finishing.{given as given_to, asked, AreOrderly}
use Rattle.replay_actors.specs.Lanes.{pumping, pumps, strays, receiving, receives, owes, strays_off}
use Rattle.stream_text.specs.OrderAsks.{line_of}
use Rattle.replay_actors.specs.Race.{calls_of_seat, notified_in}
use Rattle.replay_actors.specs.Settling.{settling, receives_from, looks, strays as astray}

-- one channel, a step of lane 1 and one args
abbrev plan : Plan
plan =
    record {
      displays = one_display;
      channels = record { terms = usual; finishes = true; finish_after = 0 } ∷ [];
      steps = record { lane = 1; call = Windows 0 (window 1 0 0 0 1080 2400 ∷ []) } ∷ [];
      cooked = record { moment = 1000; args = MotionArgs (motion Down 0 (at 0 540 1200 ∷ [])) } ∷ [];
      until = 0;
    }

-- an entry of a seat
abbrev made : ℕ → Call → Reply → Entry
made seat call reply = record { seat = seat; call = call; reply = reply }

-- the caller is number 0, the reader 1, the dispatcher 2, the script lane 3, and the application 4; the last three entries settle
abbrev entries : List Entry
entries =
    reverse
    (made 0 (Open usual) (Opened 1)
    ∷ made 2 (Pump 0) Idle
    ∷ made 3 (Windows 0 (window 1 0 0 0 1080 2400 ∷ [])) Done
    ∷ made 1 (Notify 1000 (MotionArgs (motion Down 0 (at 0 540 1200 ∷ [])))) Taken
    ∷ made 2 (Pump 0) Dispatched
    ∷ made 4 (Receive 1) (Got (says 1 1000 (motion Down 0 (at 0 540 1200 ∷ []))))
    ∷ made 2 (Tick 0) (Named 0)
    ∷ made 4 (Finish 0 1 1) Done
    ∷ made 0 (Pump 0) Idle
    ∷ made 0 (Tick 0) (Named 0)
    ∷ made 0 (Receive 1) Empty
    ∷ [])

-- the calls are answered so
they_are_answered_so : replay one_display (map (λ e. e.call) entries) ≡ history_of entries
they_are_answered_so = refl

-- their order
the_order : List OrderLine
the_order =
    words.Pump ∷ words.Script 1 ∷ words.Reader ∷ words.Pump ∷ words.Receive 1 ∷ words.Tick ∷ words.Finish 1 1 ∷ words.Pump ∷ words.Tick
    ∷ words.Receive 1 ∷ []

it_is_printed : order_of_history (3 ∷ []) entries ≡ the_order
unfolding the_order
it_is_printed = refl

who_follows_it_makes_these_calls : given_calls plan (map line_of the_order) ≡ Ok (reverse (map (λ e. e.call) entries))
unfolding the_order
who_follows_it_makes_these_calls = refl

-- an order that asks for a second step has none from its third line on
a_step_too_many : given_calls plan (map line_of (words.Script 1 ∷ words.Pump ∷ words.Script 1 ∷ [])) ≡ Err 2
a_step_too_many = refl

-- each lane's own calls
the_dispatcher : pumping (calls_by 2 (called entries)) ≡ pumps 1
the_dispatcher = refl

the_application : receiving (λ c. true) 1 0 (calls_by 4 (called entries)) ≡ receives 0 1
the_application = refl

-- it owes a finish once it was given a message, and may not go on without it
it_owes_a_finish : receiving (λ c. true) 1 0 (calls_by 4 (called (drop 5 entries))) ≡ owes 0 1 1
it_owes_a_finish = refl

it_may_not_go_on : receiving (λ c. true) 1 0 ((9, Receive 1, Empty) ∷ calls_by 4 (called (drop 5 entries))) ≡ strays_off
it_may_not_go_on = refl

-- a channel that does not finish is taken from again
none_is_owed : receiving (λ c. false) 1 0 (calls_by 4 (called (drop 5 entries))) ≡ receives 0 1
none_is_owed = refl

-- a dispatcher that pumps where it should tick
no_tick : pumping ((5, Pump 0, Idle) ∷ (4, Pump 0, Dispatched) ∷ []) ≡ strays
no_tick = refl

-- settling
the_caller_is_done : settling (λ c. true) (history_of (take 3 entries)) ≡ receives_from 2
the_caller_is_done = refl

it_looks_after_the_last_pump : settling (λ c. true) (history_of (take 1 (drop 2 entries))) ≡ looks
it_looks_after_the_last_pump = refl

no_channel_is_left_out : settling (λ c. true) ((Receive 2, Empty) ∷ (Tick 0, Named 0) ∷ (Pump 0, Idle) ∷ []) ≡ astray
no_channel_is_left_out = refl

-- what was given and asked, and how often was asked
what_was_given : given_to (history_of entries) 1 ≡ 1 ∷ []
what_was_given = refl

what_was_asked : asked (history_of entries) 1 ≡ 1 ∷ []
what_was_asked = refl

orderly : AreOrderly (λ c. true) (history_of entries)
orderly = (tt, (tt, (tt, ((refl, refl, refl), (tt, (tt, (tt, (tt, (tt, (tt, (tt, tt)))))))))))

how_often : (ticks (history_of entries) ≡ 2) × (moves (history_of entries) ≡ 1) × (idles (history_of entries) ≡ 3)
how_often = (refl, refl, refl)

-- the calls by who made them
the_steps : calls_of_seat 3 (called entries) ≡ Windows 0 (window 1 0 0 0 1080 2400 ∷ []) ∷ []
the_steps = refl

the_args : notified_in (called entries) ≡ Notify 1000 (MotionArgs (motion Down 0 (at 0 540 1200 ∷ []))) ∷ []
the_args = refl
