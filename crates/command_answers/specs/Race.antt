-- What `race` answers.
use Rattle.std.specs.Prelude.{codes, ◌≡◌, ◌<◌, ◌≤◌, ◌==◌, if◌then◌else◌, ℕ, ◌+◌, Bool, false, List, ◌∷◌, ◌++◌, length, map, reverse, Ok, Err, []}
use Rattle.raw_events.specs.declared.event.RawEvent.{RawEvent}
use Rattle.dispatch_calls.specs.declared.call.Call.{Call}
use Rattle.dispatch_history.specs.Given as history
use Rattle.dispatch_history.specs.History.{History}
use Rattle.dispatch_history.specs.Legal.{run, replay}
use Rattle.dispatch_history.specs.Plan.{ChannelOf, Plan}
use Rattle.dispatch_history.specs.Settled.{Settled}
use Rattle.stream_text.specs.OrderAsks.{line_of}
use Rattle.replay_actors.specs.Counting.{ticks, moves, idles}
use Rattle.replay_actors.specs.Finishing.{AreOrderly}
use Rattle.replay_actors.specs.Orders.{readers, steps_in}
use Rattle.replay_actors.specs.Settling.{settling, receives_from}
use Rattle.dispatch_history.specs.Given.{calls_of_lane}
use Rattle.replay_actors.specs.Texts.{ReadsAgain}
use Rattle.session_plan.specs.DeviceDisplays.{device_displays}
use Rattle.session_plan.specs.Plan.{PlanData}
use Rattle.stream_text.specs.declared.order_line.OrderLine.{OrderLine}
use Rattle.stream_text.specs.Order.{order_spelling}
use Rattle.stream_text.specs.StreamsHistory.{streams_text}
use Rattle.command_answers.specs.Given.{given_limit}
use Rattle.command_files.specs.Judged.{Answer, Ends, Origin, Reads}
use Rattle.replay_actors.specs.Session.{channel_of}
use Rattle.command_files.specs.Planned.{given, names_of, run_of}
use Rattle.command_files.specs.Refused.{too_long}
use Rattle.command_answers.specs.Whole.{AreWhole}
use Rattle.command_files.specs.Inputs.{events_file}
use Rattle.command_files.specs.Devices.{devices_of}

-- the owner of a channel finishes what it receives, if the first of these channels has the number k
abbrev pub finishes_from : ℕ → List ChannelOf → ℕ → Bool
finishes_from k [] c = false
finishes_from k (p ∷ ps) c = if c == k then p.finishes else finishes_from (k + 1) ps c

-- an order requests each args once, and each step of each lane once
pub record AsksForAll (plan : Plan) (order : List OrderLine) : Type 0 where
  pub args : readers order ≡ length plan.cooked
  pub steps : (l : ℕ) → 1 ≤ l → l ≤ 8 → steps_in l order ≡ length (calls_of_lane l plan.steps)

-- the last calls of a history settle it: pumps until nothing waits, one tick, and receives from each of these
-- channels until it has nothing more
abbrev pub EndsSettling : (finishing : ℕ → Bool) → (channels : ℕ) → History → Type 0
EndsSettling finishing channels h =
    (since : History) × (before : History) × (h ≡ since ++ before) × (settling finishing since ≡ receives_from (channels + 1))

-- The text is that of one such order, and then the streams of the run of this order, after which nothing is left to do.
pub record RacedSo (plan : PlanData) (past : List RawEvent) (text : List ℕ) : Type 0 where
  pub order : List OrderLine
  pub calls : List Call
  pub all : AsksForAll (run_of plan past) order
  pub given_is : history.given_calls (run_of plan past) (map line_of order) ≡ Ok calls
  pub text_is : text ≡ order_spelling order ++ streams_text (names_of plan) (run (device_displays plan.devices) (reverse calls))
  pub whole : AreWhole (device_displays plan.devices) (run (device_displays plan.devices) (reverse calls))
  -- reading the text as an order file gives this order
  pub again : ReadsAgain order
  -- owners that finish messages finish what they received, none of it twice, and no other owner finishes anything
  pub orderly :
      AreOrderly (finishes_from 1 (map (channel_of plan.repeats) plan.channels))
      (replay (device_displays plan.devices) (reverse calls))
  pub settled :
      Settled (device_displays plan.devices) (replay (device_displays plan.devices) (reverse calls))
      (finishes_from 1 (map (channel_of plan.repeats) plan.channels))
  -- it ticks at most once more than it dispatches args or repeats a key, and calls in vain at most 81,985 times: five
  -- threads give up after 16,384 such calls each, and the final calls find nothing once for each of at most 64
  -- channels and once for args
  pub few_ticks :
      ticks (replay (device_displays plan.devices) (reverse calls))
      ≤ moves (replay (device_displays plan.devices) (reverse calls)) + 1
  pub few_idles : idles (replay (device_displays plan.devices) (reverse calls)) ≤ 81985
  -- the last calls do everything that is left to do, and none follows them
  pub ends :
      EndsSettling (finishes_from 1 (map (channel_of plan.repeats) plan.channels)) (length plan.channels)
      (replay (device_displays plan.devices) (reverse calls))

-- the text of a race for the events of a recording, newest first, or that they give too many args
abbrev pub Races : PlanData → List RawEvent → Answer → Type 0
Races plan past (Ok text) = (length (given plan past) ≤ given_limit) × RacedSo plan past text
Races plan past (Err r) = (given_limit < length (given plan past)) × (r ≡ too_long (codes "run"))

-- what `race` answers for the events of a recording, in order
abbrev pub RaceAnswers : PlanData → List RawEvent → Answer → Type 0
RaceAnswers plan events a = Races plan (reverse events) a

-- the answer once the session is accepted: the recording is judged, and then comes the race
abbrev pub ThreadsAnswer : List ℕ → Origin → PlanData → Answer → Type 0
ThreadsAnswer events from plan a =
    Reads from events (events_file (devices_of plan)) (λ rest given. Ends (RaceAnswers plan given) rest) a
