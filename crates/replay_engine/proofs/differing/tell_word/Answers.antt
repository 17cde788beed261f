-- The word follows the two lines.
use Rattle.std.proofs.Common.{◌++◌, ℕ, List, [], ◌∷◌, codes, subst}
use Rattle.compare_text.specs.Lines.{differs_at}
use Rattle.text_output.specs.Passing.{Prints}
use Rattle.replay_engine.proofs.Parts.{line_of_parts}
use Rattle.replay_engine.proofs.differing.tell_word.Goals as goal

pub returns : goal.returns
unfolding differs_at
returns g c =
    rw (← c.format-want.ensures.text, ← c.format-got.ensures.text)
    (subst (λ (line : List ℕ). Prints g.E.Sink c.args.err.now c.tell_parts.new.err line)
    (line_of_parts (codes "compare: Differs " ∷ c.format-want.result.now ∷ codes " " ∷ c.format-got.result.now ∷ codes " " ∷ []) c.args.word.now (codes "\n"))
    c.tell_parts.ensures)
