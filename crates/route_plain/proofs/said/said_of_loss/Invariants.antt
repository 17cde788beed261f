use Rattle.std.proofs.Common.{◌≡◌}
use Rattle.route_plain.specs.Loss.{mark_of}
use Rattle.route_plain.specs.Seen.{scene_at}
use Rattle.route_plain.specs.Route.{said_up_to}
use Rattle.route_plain.specs.Sending.{sent_losses}
use Rattle.route_plain.proofs.said.said_of_loss.Given as goal

abbrev pub invariant-loop-below : goal.invariant-loop-below
invariant-loop-below l =
    let s = scene_at l.seen in l.out.items ≡ said_up_to (sent_losses s (mark_of s.windows l.change.gained.items l.change.loss)) l.below
