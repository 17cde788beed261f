use Rattle.std.proofs.Common.{◌≡◌, ◌++◌, map, drop, length}
use Rattle.std.specs.List.{All}
use Rattle.session_plan.specs.View.{channel_view}
use Rattle.schedule.specs.Planned.{channel_of as run_channel, IsChannel}
use Rattle.replay_actors.specs.Session.{channel_of}
use Rattle.command_answers.proofs.plan.run_channels.Given as goal

-- the channels so far, and then those that are left, are all
abbrev pub invariant-loop-channel : goal.invariant-loop-channel
invariant-loop-channel l =
    record {
      rest : map run_channel l.all.items ++ map (channel_of l.repeats) (map channel_view (drop l.channel-index l.channels)) ≡ map (channel_of l.repeats) (map channel_view l.channels);
      len : length l.all.items ≡ l.channel-index;
      valid : All IsChannel l.all.items;
    }
