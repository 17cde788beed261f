-- A run's plan as the history's definitions see it, without its args.
use Rattle.std.specs.Prelude.{◌≡◌, ◌≤◌, [], length, map}
use Rattle.std.specs.List.{All}
use Rattle.dispatch_history.specs.Plan.{Plan, ChannelOf, ScriptStep}
use Rattle.dispatch_history.specs.Ordered.{is_scripted}
use Rattle.schedule.specs.declared.plan.Channel.{Channel}
use Rattle.schedule.specs.declared.plan.Step.{Step}
use Rattle.schedule.specs.declared.plan.Plan.{Plan as RunPlan}

-- a channel: what it is opened with, whether its owner finishes messages, and how long after it took them
abbrev pub channel_of : Channel → ChannelOf
channel_of c = record { terms = c.terms; finishes = c.finishes; finish_after = c.finish_after }

-- a step of a script: its lane and its call
abbrev pub step_of : Step → ScriptStep
step_of s = record { lane = s.lane; call = s.call }

-- the plan of a run whose args are not known yet
abbrev pub plan_of : RunPlan → Plan
plan_of r =
    record {
      displays = r.displays;
      channels = map channel_of r.channels.items;
      steps = map step_of r.steps.items;
      cooked = [];
      until = r.until;
    }

-- a step that a script can make
abbrev pub IsStep : Step → Type 0
IsStep s = is_scripted s.call ≡ 1

-- an owner that finishes a message at most 10^15 microseconds after it received it
abbrev pub IsChannel : Channel → Type 0
IsChannel c = c.finish_after ≤ 1000000000000000

-- at most 64 channels, each of which finishes in time, and steps that a script can make
pub record IsRun (r : RunPlan) : Type 0 where
  pub few : length r.channels.items ≤ 64
  pub channels : All IsChannel r.channels.items
  pub steps : All IsStep r.steps.items
