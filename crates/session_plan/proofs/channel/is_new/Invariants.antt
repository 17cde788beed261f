use Rattle.std.proofs.Common.{◌≡◌, map, drop, bytes_eq}
use Rattle.std.specs.List.{list_any}
use Rattle.session_plan.specs.View.{channel_view}
use Rattle.session_plan.proofs.channel.is_new.Given as goal

-- the answer is that of the channels that are left
abbrev pub invariant-loop-channel : goal.invariant-loop-channel
invariant-loop-channel l =
    list_any (λ c. bytes_eq c.name l.name) (map channel_view (drop l.channel-index l.channels)) ≡ list_any (λ c. bytes_eq c.name l.name) (map channel_view l.channels)
