use Rattle.std.proofs.Common.{◌≡◌, [], length}
use Rattle.key_layout.specs.Layout.{codes_behind}
use Rattle.text_lines.specs.Lines.{lines_of}
use Rattle.key_layout.proofs.layout.Layout.read.Given as goal

-- the codes so far, followed by those of the remaining lines, are all
abbrev pub invariant-lines : goal.invariant-lines
invariant-lines l = codes_behind l.codes.entries l.number (lines_of l.rest) ≡ codes_behind [] 1 (lines_of l.text)

abbrev pub decreases-lines : goal.decreases-lines
decreases-lines l = length l.rest
