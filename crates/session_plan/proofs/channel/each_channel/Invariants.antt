use Rattle.std.proofs.Common.{◌≡◌, ◌+◌, map, drop, length, []}
use Rattle.toml.specs.View.{view}
use Rattle.session_plan.specs.Channels.{channel_of}
use Rattle.session_plan.specs.Reading.{each}
use Rattle.std.specs.List.{All}
use Rattle.session_plan.specs.Valid.{IsChannel}
use Rattle.session_plan.specs.View.{channel_view}
use Rattle.session_plan.proofs.channel.each_channel.Given as goal

-- the channels so far, and then those that are left, are all
abbrev pub invariant-loop-i : goal.invariant-loop-i
invariant-loop-i l = record {
  rest : each channel_of (l.i + 1) (map channel_view l.channels.items) (map view (drop l.i l.tables)) ≡ each channel_of 1 [] (map view l.tables);
  len : length l.channels.items ≡ l.i;
  valid : All IsChannel l.channels.items;
}
