use Rattle.std.proofs.Common.{◌≡◌, ◌≤◌, ◌+◌, ◌++◌, drop, length, vec_len, vec_capacity}
use Rattle.dispatcher.specs.CancelSynthesis.Ends.{keys_cancelled, of_device}
use Rattle.dispatcher.proofs.cancel_synthesis.held_keys.cancel_device_keys_into.Given as goal

-- the ups of the keys seen so far, and room for the others
abbrev pub invariant-loop-kept : goal.invariant-loop-kept
invariant-loop-kept l =
    (l.out.items ++ keys_cancelled (of_device l.device (drop l.kept-index l.keys)) ≡ keys_cancelled (of_device l.device l.keys))
    × (vec_len l.out + length (drop l.kept-index l.keys) ≤ vec_capacity l.out)
    × (vec_capacity l.initial.out ≤ vec_capacity l.out)
