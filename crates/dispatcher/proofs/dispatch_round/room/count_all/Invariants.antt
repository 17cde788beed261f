use Rattle.std.proofs.Common.{◌≡◌, ◌+◌, ◌*◌, ◌≤◌, drop}
use Rattle.routing_rules.specs.Outgoing.{devices}
use Rattle.dispatcher.specs.DispatchRound.Rounds.{count_of}
use Rattle.dispatcher.proofs.dispatch_round.room.count_all.Given as goal

-- what is counted and what is left are all; no device has more than 16
abbrev pub invariant-devices : goal.invariant-devices
invariant-devices l =
    (l.count + count_of l.input (drop l.place devices) ≡ count_of l.input devices)
    × (l.count ≤ 16 * l.place)
