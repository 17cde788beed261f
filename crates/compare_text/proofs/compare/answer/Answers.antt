-- What the measure of all pairs says.
use Rattle.std.proofs.Common.{Ok, map, sym, ap, ◌∙◌}
use Rattle.std.proofs.lemmas.List.{length-map}
use Rattle.compare_text.specs.Compared.{same_line}
use Rattle.compare_text.specs.Indexed.{seen}
use Rattle.compare_text.proofs.Chosen.{said_same}
use Rattle.compare_text.proofs.compare.answer.Goals as goal

pub returns-clause-ok : goal.returns-clause-ok
returns-clause-ok c =
    said_same c.args.rule.now (map seen c.args.want.now) (map seen c.args.got.now) c.in_ok-measure.measure (sym c.compare_sections.ensures ∙ c.in_ok-measure.was)
    ∙ ap (λ n. Ok (same_line n c.in_ok-measure.measure)) (length-map c.args.want.now seen)
    ∙ ap (λ text. Ok text) (sym c.in_ok-same.ensures)
