use Rattle.std.proofs.Common.{◌≡◌, ◌++◌, drop}
use Rattle.routing_rules.specs.Outgoing.{devices}
use Rattle.dispatcher.specs.CancelSynthesis.Ends.{devices_sent}
use Rattle.dispatcher.proofs.cancel_synthesis.pointers.cancel_devices.Given as goal

abbrev pub invariant-loop-k : goal.invariant-loop-k
invariant-loop-k l = l.out.items ++ devices_sent l.pointers (drop l.k devices) ≡ l.initial.out.items ++ devices_sent l.pointers devices
