use Rattle.std.proofs.Common.{◌≡◌, ◌+◌, map, drop}
use Rattle.session_plan.specs.Channels.{named_from}
use Rattle.session_plan.specs.View.{channel_view}
use Rattle.session_plan.proofs.channel.number_of.Given as goal

-- the answer is that of the channels that are left
abbrev pub invariant-loop-i : goal.invariant-loop-i
invariant-loop-i l = named_from (l.i + 1) (map channel_view (drop l.i l.channels)) l.name ≡ named_from 1 (map channel_view l.channels) l.name
