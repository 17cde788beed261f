use Rattle.std.proofs.Common.{option_map, sym, ap, ◌∙◌}
use Rattle.why_text.specs.Lines.{repeat_word}
use Rattle.why_lines.specs.Growing.{with_lines}
use Rattle.why_lines.proofs.Growing.{no_line, one_line, same_after}
use Rattle.why_lines.proofs.Pumping.{next_sent, next_words}
use Rattle.why_lines.proofs.keys.add_due.Goals as goal

pub returns-in-Some : goal.returns-in-Some
returns-in-Some c es st due =
    let text = c.args.text.now.items in
    same_after c.repeat.result c.repeat.new.text.items _ _ c.repeat.ensures
    (one_line c.args.clock (repeat_word c.in-Some.next.1 c.in-Some.next.0) text
    ∙ ap (λ words. with_lines c.args.clock words text)
    (ap (λ o. next_words (option_map (λ n. (n.0, n.1)) o)) (sym c.in-Some.is)
    ∙ ap next_words (c.repeat-next.ensures es st)
    ∙ sym (next_sent es due)))

pub returns-in-None : goal.returns-in-None
returns-in-None c es st due =
    let text = c.args.text.now.items in
    no_line c.args.clock text
    ∙ ap (λ words. with_lines c.args.clock words text)
    (ap (λ o. next_words (option_map (λ n. (n.0, n.1)) o)) (sym c.in-None.is)
    ∙ ap next_words (c.repeat-next.ensures es st)
    ∙ sym (next_sent es due))
