use Rattle.std.proofs.Common.{◌≡◌, ◌+◌, drop}
use Rattle.dispatcher.specs.CancelSynthesis.Tracked.{keys_before}
use Rattle.dispatcher.proofs.cancel_synthesis.held_keys.keys_before.Given as goal

abbrev pub invariant-loop-place : goal.invariant-loop-place
invariant-loop-place l = l.place + keys_before l.key (drop l.place l.keys) ≡ keys_before l.key l.keys
