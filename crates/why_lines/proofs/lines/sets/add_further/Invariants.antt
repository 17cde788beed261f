use Rattle.std.proofs.Common.{◌≡◌, ◌++◌, length}
use Rattle.window_snapshot.specs.Mask.{mask_has}
use Rattle.why_text.specs.Words.{channels_that}
use Rattle.why_lines.specs.Lost.{behind_commas}
use Rattle.why_lines.proofs.lines.sets.add_further.Given as goal

-- what is written, with the channels that are left, is all
abbrev pub invariant-loop-rest : goal.invariant-loop-rest
invariant-loop-rest l =
    l.text.items ++ behind_commas (channels_that (mask_has l.rest)) ≡ l.initial.text.items ++ behind_commas (channels_that (mask_has l.mask))

abbrev pub decreases-loop-rest : goal.decreases-loop-rest
decreases-loop-rest l = length (channels_that (mask_has l.rest))
