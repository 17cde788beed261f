use Rattle.std.proofs.Common.{◌++◌, ap, ◌∙◌}
use Rattle.std.specs.Prelude.{codes}
use Rattle.std.specs.Fmt.{decimal}
use Rattle.text_lines.specs.Written.{labeled}
use Rattle.inspect_text.specs.CountedHints.{number_line}
use Rattle.inspect_text.proofs.Growing.{grown, regroup_number}
use Rattle.inspect_text.proofs.counted_hints.add_number_line.Goals as goal

pub returns : goal.returns
unfolding labeled
returns c =
    let text = c.args.text.now.items in
    let words = c.args.words.now in
    grown c.add_word.result c.add_word.new.text.items c.add_labeled-2.new.text.items (codes "\n")
    (text ++ number_line c.args.device words c.args.number)
    c.add_word.ensures
    (ap (λ xs. xs ++ codes "\n")
    (c.in_ok-add_labeled-2.ensures ∙ ap (λ xs. xs ++ (words ++ decimal c.args.number)) c.in_ok-add_labeled.ensures)
    ∙ regroup_number text (codes "hint device ") (decimal c.args.device) words (decimal c.args.number) (codes "\n"))
