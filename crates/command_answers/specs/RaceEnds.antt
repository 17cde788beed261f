-- A race of a plan, as its functions see it.
use Rattle.std.specs.Prelude.{◌≡◌, ℕ, List, Option, length, map}
use Rattle.key_repeat.specs.declared.delays.Repeats.{Repeats}
use Rattle.stream_text.specs.OrderHistory.{order_of_history}
use Rattle.window_snapshot.specs.Mask.{mask_has}
use Rattle.dispatch_core.specs.Machine.{called, steps}
use Rattle.dispatch_core.specs.Recorded.{IsSound}
use Rattle.dispatch_history.specs.Plan.{ChannelOf, Cooked, Plan, ScriptStep}
use Rattle.given_run.specs.Planned.{cooked_of}
use Rattle.given_run.specs.declared.cooked.Cooked.{Cooked as GivenArgs}
use Rattle.replay_actors.specs.Laws.{RaceOf}
use Rattle.replay_actors.specs.Orders.{AreLanes}
use Rattle.replay_actors.specs.declared.part.Lanes.{Lanes}
use Rattle.replay_actors.specs.declared.part.RaceEnd.{RaceEnd}
use Rattle.replay_actors.specs.Plans.{scripted}
use Rattle.replay_actors.specs.Texts.{ReadsAgain, race_output}
use Rattle.session_plan.specs.View.{channel_view}
use Rattle.session_plan.specs.declared.plan.ChannelPlan.{ChannelPlan}
use Rattle.session_plan.specs.declared.plan.Step.{Step}
use Rattle.replay_actors.specs.Session.{channel_of, step_of}
use Rattle.command_answers.specs.Race.{EndsSettling, finishes_from}

-- the mask is that of these channels whose owners finish what they receive
abbrev pub HasFinishing : Plan → ℕ → Type 0
HasFinishing plan mask = (c : ℕ) → mask_has mask c ≡ finishes_from 1 plan.channels c

-- these lanes do what these channels, steps and args require
pub record DoPlan (channels : List ChannelOf) (steps : List ScriptStep) (cooked : List Cooked) (l : Lanes) : Type 0 where
  pub cooked_are : l.cooked.items ≡ map (λ a. (a.moment, a.args)) cooked
  pub lanes_are : AreLanes 1 (scripted l.scripts.items) steps
  pub few : length l.scripts.items ≡ 8
  pub channels_are : l.channels ≡ length channels
  pub finishing_are : (c : ℕ) → mask_has l.finishing c ≡ finishes_from 1 channels c

-- the plan of these channels, repeats, steps and args, with the devices on these displays
abbrev pub raced_plan : List ℕ → Option Repeats → List ChannelPlan → List Step → List GivenArgs → ℕ → Plan
raced_plan displays repeats channels steps all until =
    record {
      displays = displays;
      channels = map (channel_of repeats) (map channel_view channels);
      steps = map step_of steps;
      cooked = map cooked_of all;
      until = until;
    }

-- the end of a race that did what a plan has, with a core whose history is sound
pub record EndsRace (plan : Plan) (end : RaceEnd) : Type 0 where
  pub mask : ℕ
  pub finishing_are : HasFinishing plan mask
  pub few : length end.script_seats.items ≡ 8
  pub displays_are : end.core.displays ≡ plan.displays
  pub sound : IsSound end.core
  pub race : RaceOf plan (mask_has mask) end.script_seats.items end.core.entries
  pub ends : EndsSettling (mask_has mask) (length plan.channels) (steps (called end.core.entries))

-- A text is what the end of a race prints, if the end is one of these: the order of its calls, which reads back as
-- this order, and then the streams of channels with some names.
pub record PrintsEnd (left : RaceEnd → Type 0) (text : List ℕ) : Type 0 where
  pub end : RaceEnd
  pub was_left : left end
  pub names : List (List ℕ)
  pub text_is : text ≡ race_output names end.script_seats.items end.core
  pub again : ReadsAgain (order_of_history end.script_seats.items end.core.entries)
