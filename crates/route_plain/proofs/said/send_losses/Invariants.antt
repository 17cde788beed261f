use Rattle.std.proofs.Common.{◌≡◌, ◌++◌, drop}
use Rattle.std.specs.Prelude.{flat_map}
use Rattle.routing_rules.specs.Outgoing.{devices}
use Rattle.route_plain.specs.Loss.{mark_of}
use Rattle.route_plain.specs.Seen.{scene_at}
use Rattle.route_plain.specs.Route.{to_channel}
use Rattle.route_plain.specs.Sending.{sent_lost}
use Rattle.route_plain.proofs.said.send_losses.Given as goal

abbrev pub invariant-loop-below : goal.invariant-loop-below
invariant-loop-below l =
    let s = scene_at l.seen in
    let outgoing = sent_lost s (mark_of s.windows l.change.gained.items l.change.loss) l.channel in
    l.out.items ++ to_channel l.channel (flat_map outgoing (drop l.below devices)) ≡ l.initial.out.items ++ to_channel l.channel (flat_map outgoing devices)
