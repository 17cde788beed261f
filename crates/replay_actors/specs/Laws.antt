-- Proved facts about races, and about what is printed of them. Each law is the clause of a function of its own.
use Rattle.std.specs.Prelude.{◌≡◌, ℕ, ◌+◌, Bool, List, ◌++◌, length, map, reverse, Some, Ok}
use Rattle.input_types.specs.declared.message.Args.{Args}
use Rattle.dispatch_calls.specs.declared.call.Call.{Call}
use Rattle.dispatch_calls.specs.declared.call.Entry.{Entry}
use Rattle.dispatch_history.specs.Effects.{effects}
use Rattle.dispatch_history.specs.Given.{given_calls, opens, calls_of_lane}
use Rattle.dispatch_history.specs.Legal.{run, replay}
use Rattle.dispatch_calls.specs.declared.reply.Reply.{Reply}
use Rattle.dispatch_history.specs.Ordered.{is_scripted}
use Rattle.dispatch_history.specs.Plan.{Plan}
use Rattle.dispatch_history.specs.Settled.{Settled}
use Rattle.dispatch_core.specs.Machine.{IsLegal, called, steps}
use Rattle.dispatch_core.specs.Recorded.{Recorded, history_of}
use Rattle.stream_text.specs.OrderHistory.{lane_from, order_of_history}
use Rattle.replay_actors.specs.Lanes.{Own, calls_made}
use Rattle.replay_actors.specs.Orders.{readers, steps_in, AreLanes}
use Rattle.stream_text.specs.Order.{order_spelling}
use Rattle.stream_text.specs.OrderAsks.{line_of}
use Rattle.stream_text.specs.StreamsHistory.{streams_text}
use Rattle.replay_actors.specs.Texts.{race_output}
use Rattle.replay_actors.specs.Race.{Each, IsRace, seats_from}
use Rattle.replay_actors.specs.Raced.{Raced}
use Rattle.replay_actors.specs.Settling.{settling, receives_from}
use Rattle.turnstile.specs.History.{Entry as Called}

-- A race did what a plan has, and these are its entries.
pub record RaceOf (plan : Plan) (finishing : ℕ → Bool) (seats : List ℕ) (entries : List Entry) : Type 0 where
  pub opened : List Own
  pub scripts : List (List Call)
  pub race : IsRace plan.displays finishing opened (map (λ a. (a.moment, a.args)) plan.cooked) scripts seats (called entries)
  pub opens_are : calls_made opened ≡ reverse (opens plan.channels)
  pub lanes_are : AreLanes 1 scripts plan.steps

-- Following the order of a race makes exactly its calls, and so gives its history with all its effects.
abbrev pub OrderLaw : Type 0
OrderLaw =
    (plan : Plan) (finishing : ℕ → Bool) (seats : List ℕ) (entries : List Entry)
    → RaceOf plan finishing seats entries
    → (calls : List Call)
    × (given_calls plan (map line_of (order_of_history seats entries)) ≡ Ok calls)
    × (replay plan.displays (reverse calls) ≡ history_of entries)
    × (run plan.displays (reverse calls) ≡ effects plan.displays (history_of entries))

-- The order of a race asks for the next args as often as there are args, and for the next step of each lane that has a seat as often as the
-- lane has steps.
abbrev pub CountsLaw : Type 0
CountsLaw =
    (plan : Plan) (finishing : ℕ → Bool) (seats : List ℕ) (entries : List Entry)
    → RaceOf plan finishing seats entries
    → (readers (order_of_history seats entries) ≡ length plan.cooked)
    × ((l s : ℕ) → lane_from 1 seats s ≡ Some l → steps_in l (order_of_history seats entries) ≡ length (calls_of_lane l plan.steps))

-- What the lanes of a race leave behind, once it is settled, is a race.
abbrev pub RaceLaw : Type 0
RaceLaw =
    (displays : List ℕ) (finishing : ℕ → Bool) (opened : List Own) (cooked : List (ℕ × Args)) (scripts : List (List Call))
    (s h : List (Called Call Reply))
    → Raced displays finishing (length opened) opened cooked scripts h
    → Each (Each (λ call. is_scripted call ≡ 1)) scripts
    → IsLegal displays (s ++ h)
    → Each (λ e. e.0 ≡ 0) s
    → settling finishing (steps s) ≡ receives_from (length opened + 1)
    → IsRace displays finishing opened cooked scripts (seats_from 3 (length scripts)) (s ++ h)

-- A race prints an order, and the streams of the plan run in that order, after which nothing is left to do.
pub record Prints (plan : Plan) (finishing : ℕ → Bool) (names : List (List ℕ)) (seats : List ℕ) (r : Recorded) : Type 0 where
  pub calls : List Call
  pub given_is : given_calls plan (map line_of (order_of_history seats r.entries)) ≡ Ok calls
  pub text_is :
      race_output names seats r
      ≡ order_spelling (order_of_history seats r.entries) ++ streams_text names (run plan.displays (reverse calls))
  pub settled : Settled plan.displays (replay plan.displays (reverse calls)) finishing

-- Every race of a plan prints in this way.
abbrev pub PrintsLaw : Type 0
PrintsLaw =
    (plan : Plan) (finishing : ℕ → Bool) (names : List (List ℕ)) (seats : List ℕ) (r : Recorded)
    → r.displays ≡ plan.displays → RaceOf plan finishing seats r.entries → Prints plan finishing names seats r
