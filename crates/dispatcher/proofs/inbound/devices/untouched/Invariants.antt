use Rattle.std.proofs.Common.{◌≡◌, length}
use Rattle.dispatcher.proofs.InboundArgs.Tables.{Blank}
use Rattle.dispatcher.proofs.inbound.devices.untouched.Given as goal

-- so many devices, and nothing is down on any
abbrev pub invariant-devices : goal.invariant-devices
invariant-devices l = (length l.devices.items ≡ l.counter) × Blank l.devices.items
