use Rattle.std.proofs.Common.{◌-◌, length, drop, map}
use Rattle.input_types.specs.declared.message.Body.TheVariants.{Key}
use Rattle.dispatcher.specs.DispatchChannels.Table.{Table}
use Rattle.dispatcher.specs.DispatchRound.Saying.{CanBeSent, SendsOne}
use Rattle.dispatcher.proofs.dispatch_round.say.say_keys.Given as goal

-- once the rest is sent, all are
abbrev pub invariant-loop-message : goal.invariant-loop-message
invariant-loop-message l =
    CanBeSent l.to.window (length l.keys - l.message-index) l.channels
    × ((u : Table)
    → SendsOne l.to (map Key (drop l.message-index l.keys)) l.channels u
    → SendsOne l.to (map Key l.keys) l.initial.channels u)
