use Rattle.std.proofs.Common.{◌≡◌, ℕ, ◌<◌, drop, flat_map}
use Rattle.routing_rules.specs.Outgoing.{devices}
use Rattle.dispatcher.specs.CancelSynthesis.Tracked.{pointers_of}
use Rattle.dispatcher.specs.DispatchChannels.Table.{Table, input_of}
use Rattle.dispatcher.specs.DispatchRound.Bodies.{told}
use Rattle.dispatcher.specs.DispatchRound.Rounds.{count_of}
use Rattle.dispatcher.specs.DispatchRound.Saying.{CanBeSent, SendsOne, losses}
use Rattle.dispatcher.proofs.dispatch_round.motions.say_losses.Given as goal

-- there is room for the devices that are left, whose pointers are as they were; once their losses are sent, all are
abbrev pub invariant-devices : goal.invariant-devices
invariant-devices l =
    CanBeSent l.to.window (count_of (input_of l.initial.channels l.to.window) (drop l.place devices)) l.channels
    × ((d : ℕ) → l.place < d → pointers_of (input_of l.channels l.to.window) d ≡ pointers_of (input_of l.initial.channels l.to.window) d)
    × ((u : Table)
    → SendsOne l.to (told l.to.covers.now l.to.window (flat_map (losses l.touches l.to.window (input_of l.initial.channels l.to.window)) (drop l.place devices))) l.channels u
    → SendsOne l.to (told l.to.covers.now l.to.window (flat_map (losses l.touches l.to.window (input_of l.initial.channels l.to.window)) devices)) l.initial.channels u)
