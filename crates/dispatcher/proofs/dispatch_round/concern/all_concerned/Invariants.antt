use Rattle.std.proofs.Common.{◌≡◌, ℕ, ◌||◌, drop}
use Rattle.std.specs.List.{list_any}
use Rattle.window_snapshot.specs.Mask.{mask_has}
use Rattle.routing_rules.specs.Outgoing.{devices}
use Rattle.route_split.specs.Marking.{may_be_sent}
use Rattle.dispatcher.proofs.dispatch_round.concern.all_concerned.Given as goal

-- the windows so far, and those of the devices that are left, are all
abbrev pub invariant-devices : goal.invariant-devices
invariant-devices l =
    (w : ℕ)
    → (mask_has l.mask w || list_any (may_be_sent l.touches l.mark w) (drop l.place devices))
    ≡ list_any (may_be_sent l.touches l.mark w) devices
