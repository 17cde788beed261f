-- The two distances follow the word.
use Rattle.std.proofs.Common.{◌++◌, ◌∙◌, ℕ, List, [], ◌∷◌, codes, ap, subst, to_z-of_z}
use Rattle.std.specs.Fmt.{signed_decimal}
use Rattle.compare_text.specs.Lines.{differs_at}
use Rattle.text_output.specs.Passing.{Prints}
use Rattle.replay_engine.proofs.Parts.{line_of_parts}
use Rattle.replay_engine.proofs.differing.tell_place.Goals as goal

pub returns : goal.returns
unfolding differs_at
returns g c =
    rw (
      ← c.format-want.ensures.text,
      ← c.format-got.ensures.text,
      ← (c.format-dx.ensures.text ∙ ap signed_decimal (to_z-of_z c.ranges.dx)),
      ← (c.format-dy.ensures.text ∙ ap signed_decimal (to_z-of_z c.ranges.dy)),
    )
    (subst (λ (line : List ℕ). Prints g.E.Sink c.args.err.now c.tell_parts.new.err line)
    (line_of_parts
    (codes "compare: Differs " ∷ c.format-want.result.now ∷ codes " " ∷ c.format-got.result.now ∷ codes " place " ∷ c.format-dx.result.now ∷ codes "," ∷ [])
    c.format-dy.result.now (codes "\n"))
    c.tell_parts.ensures)
