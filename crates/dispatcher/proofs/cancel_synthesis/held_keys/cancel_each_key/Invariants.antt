use Rattle.std.proofs.Common.{◌≡◌, ◌++◌, drop}
use Rattle.dispatcher.specs.CancelSynthesis.Ends.{keys_sent}
use Rattle.dispatcher.proofs.cancel_synthesis.held_keys.cancel_each_key.Given as goal

abbrev pub invariant-loop-kept : goal.invariant-loop-kept
invariant-loop-kept l = l.out.items ++ keys_sent (drop l.kept-index l.keys) ≡ l.initial.out.items ++ keys_sent l.keys
