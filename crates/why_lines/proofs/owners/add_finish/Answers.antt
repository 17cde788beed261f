use Rattle.std.proofs.Common.{sym, ap, ◌∙◌}
use Rattle.why_text.specs.Lines.{responsive_word}
use Rattle.why_lines.specs.Growing.{with_lines}
use Rattle.why_lines.specs.Owners.{again_words}
use Rattle.why_lines.proofs.Growing.{no_line, one_line, same_after}
use Rattle.why_lines.proofs.owners.add_finish.Goals as goal

pub returns-then-mask_has : goal.returns-then-mask_has
returns-then-mask_has c =
    let text = c.args.text.now.items in
    same_after c.responsive.result c.responsive.new.text.items _ _ c.responsive.ensures
    (one_line c.args.clock (responsive_word c.args.channel) text
    ∙ ap (λ b. with_lines c.args.clock (again_words b c.args.channel) text)
    (sym c.if-mask_has.true ∙ c.mask_has.ensures ∙ c.mask_less.ensures.channels c.args.channel))

pub returns-else-mask_has : goal.returns-else-mask_has
returns-else-mask_has c =
    let text = c.args.text.now.items in
    no_line c.args.clock text
    ∙ ap (λ b. with_lines c.args.clock (again_words b c.args.channel) text)
    (sym c.if-mask_has.false ∙ c.mask_has.ensures ∙ c.mask_less.ensures.channels c.args.channel)
