use Rattle.std.proofs.Common.{◌++◌, ap, ◌∙◌}
use Rattle.std.specs.Prelude.{codes}
use Rattle.std.specs.Fmt.{decimal}
use Rattle.why_text.specs.Text.{change_words}
use Rattle.why_lines.specs.Growing.{with_lines}
use Rattle.why_lines.proofs.Changing.{five_changes, same_changes}
use Rattle.why_lines.proofs.Growing.{same_after}
use Rattle.why_lines.proofs.focuses.add_changes.Goals as goal

pub returns : goal.returns
returns c h k before after =
    let f = c.args.before.now in
    let g = c.args.after.now in
    let t = c.args.clock in
    let text = c.args.text.now.items in
    let one = change_words (codes "focus " ++ decimal 0 ++ codes " ") f.first g.first in
    let two = change_words (codes "focus " ++ decimal 1 ++ codes " ") f.second g.second in
    let three = change_words (codes "focus " ++ decimal 2 ++ codes " ") f.third g.third in
    let four = change_words (codes "focus " ++ decimal 3 ++ codes " ") f.fourth g.fourth in
    let five = change_words (codes "target ") f.target g.target in
    same_after c.target.result c.target.new.text.items _ _ c.target.ensures
    (ap (with_lines t five)
    (c.in_ok-add_change-4.ensures
    ∙ ap (with_lines t four)
    (c.in_ok-add_change-3.ensures ∙ ap (with_lines t three) (c.in_ok-add_change-2.ensures ∙ ap (with_lines t two) c.in_ok-add_change.ensures)))
    ∙ five_changes t one two three four five text
    ∙ ap (λ words. with_lines t words text) (same_changes h k f g before after))
