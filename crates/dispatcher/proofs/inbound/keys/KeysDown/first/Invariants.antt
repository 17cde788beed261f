use Rattle.std.proofs.Common.{◌≡◌, ◌-◌, ◌<◌, ◌≤◌, ℕ, false}
use Rattle.dispatcher.specs.InboundArgs.Keys.{has_key}
use Rattle.dispatcher.proofs.inbound.keys.KeysDown.first.Given as goal

-- no key before the code is down
abbrev pub invariant-codes : goal.invariant-codes
invariant-codes l =
    record {
      reached : l.from ≤ l.code;
      none : (s : ℕ) → l.from ≤ s → s < l.code → has_key l.self s ≡ false;
    }

abbrev pub decreases-codes : goal.decreases-codes
decreases-codes l = 65536 - l.code
