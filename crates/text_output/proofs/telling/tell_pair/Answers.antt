-- The line is that of its parts.
use Rattle.std.proofs.Common.{ℕ, List, codes, subst}
use Rattle.text_output.specs.Passing.{Prints}
use Rattle.text_output.proofs.Lines.{pair_line}
use Rattle.text_output.proofs.telling.tell_pair.Goals as goal

pub returns : goal.returns
returns g c =
    subst (λ (line : List ℕ). Prints g.E.Sink c.args.err.now c.tell_parts.new.err line)
    (pair_line c.args.words.now c.args.first.now (codes " ") c.args.second.now (codes "\n")) c.tell_parts.ensures
