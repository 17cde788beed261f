-- The channels and the steps of a session, as a history's plan has them.
use Rattle.std.specs.Prelude.{ℕ, true, Option}
use Rattle.key_repeat.specs.declared.delays.Repeats.{Repeats}
use Rattle.dispatch_calls.specs.declared.call.Call.{Call}
use Rattle.dispatch_calls.specs.declared.call.Call.TheVariants as calls
use Rattle.dispatch_history.specs.Plan.{ChannelOf, ScriptStep}
use Rattle.session_plan.specs.Plan.{ChannelData}
use Rattle.session_plan.specs.declared.plan.Act.{Act}
use Rattle.session_plan.specs.declared.plan.Act.TheVariants.{Windows, FocusOn, Pilfer, Remove}
use Rattle.session_plan.specs.declared.plan.Step.{Step}

-- a channel without its name, for which keys are repeated so
abbrev pub channel_of : Option Repeats → ChannelData → ChannelOf
channel_of repeats c = record { terms = record { limit = c.limit; repeats = repeats }; finishes = c.finishes; finish_after = c.finish_after }

-- the call of a step, at its moment
abbrev pub call_of : ℕ → Act → Call
call_of at (Windows snapshot) = calls.Windows at snapshot
call_of at (FocusOn display channel) = calls.FocusOn at display channel true
call_of at (Pilfer channel device) = calls.Pilfer at channel device
call_of at (Remove channel) = calls.Remove at channel

-- a step with its lane
abbrev pub step_of : Step → ScriptStep
step_of s = record { lane = s.lane; call = call_of s.at s.act }
