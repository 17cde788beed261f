use Rattle.std.proofs.Common.{sym, ap, ◌∙◌}
use Rattle.why_text.specs.Lines.{motion_words}
use Rattle.why_lines.specs.Growing.{with_lines}
use Rattle.why_lines.proofs.Growing.{no_line}
use Rattle.why_lines.proofs.motions.add_motion.Goals as goal

pub returns-in-None : goal.returns-in-None
returns-in-None c s seen may =
    let m = c.args.motion.now in
    let text = c.args.text.now.items in
    no_line c.args.clock text
    ∙ ap (λ o. with_lines c.args.clock (motion_words s m o) text) (sym c.in-None.is ∙ c.changed.ensures)
