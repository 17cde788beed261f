use Rattle.std.proofs.Common.{◌≡◌, ◌++◌, length}
use Rattle.window_snapshot.specs.Mask.{mask_has}
use Rattle.why_text.specs.Lines.{blocked_words}
use Rattle.why_text.specs.Words.{channels_that}
use Rattle.why_lines.specs.Causes.{blocked_by, walled_by}
use Rattle.why_lines.proofs.lines.downs.add_blocked.Given as goal

-- what is written, with the windows that are left, is all
abbrev pub invariant-loop-rest : goal.invariant-loop-rest
invariant-loop-rest l =
    l.text.items ++ blocked_words (mask_has l.rest) (blocked_by l.blocked) (walled_by l.blocked)
    ≡ l.initial.text.items ++ blocked_words (mask_has l.blocked.mask) (blocked_by l.blocked) (walled_by l.blocked)

abbrev pub decreases-loop-rest : goal.decreases-loop-rest
decreases-loop-rest l = length (channels_that (mask_has l.rest))
