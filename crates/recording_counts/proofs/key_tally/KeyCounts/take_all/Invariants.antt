use Rattle.std.proofs.Common.{◌≡◌, ◌++◌, List, take, reverse}
use Rattle.input_types.specs.declared.message.Args.{Args}
use Rattle.recording_counts.specs.KeyTally.{key_counts}
use Rattle.recording_counts.proofs.key_tally.KeyCounts.take_all.Given as goal

abbrev pub invariant-loop-a : goal.invariant-loop-a
invariant-loop-a l = (before : List Args) → l.fn.self ≡ key_counts before → l.self ≡ key_counts (reverse (take l.a-index l.args) ++ before)
