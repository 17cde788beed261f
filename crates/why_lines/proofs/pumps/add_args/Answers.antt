use Rattle.std.proofs.Common.{Some, sym, ap, ◌∙◌}
use Rattle.dispatch_history.specs.Step.{scene}
use Rattle.why_text.specs.Lines.{args_words, key_line, reset_words}
use Rattle.why_lines.specs.Growing.{with_lines}
use Rattle.why_lines.proofs.Coming.{may_come}
use Rattle.why_lines.proofs.Growing.{one_line, same_after}
use Rattle.why_lines.proofs.pumps.add_args.Goals as goal

pub returns-in-Motion : goal.returns-in-Motion
returns-in-Motion c es x st first is =
    let text = c.args.text.now.items in
    let ds = c.args.dispatcher.now.displays in
    same_after c.add_motion.result c.add_motion.new.text.items _ _
    (c.add_motion.ensures (scene ds es) (c.sight-seen.ensures es st)
    (may_come ds es c.in-Motion.motion st.lawful st.rise (first ∙ ap Some c.in-Motion.is)))
    (ap (λ a. with_lines c.args.clock (args_words ds (Some a) x es) text) (sym c.in-Motion.is))

pub returns-in-Key : goal.returns-in-Key
returns-in-Key c es x st first is =
    let text = c.args.text.now.items in
    let ds = c.args.dispatcher.now.displays in
    same_after c.add_key.result c.add_key.new.text.items _ _ (c.add_key.ensures es x st (is ∙ ap Some c.in-Key.is))
    (one_line c.args.clock (key_line c.in-Key.key x es) text
    ∙ ap (λ a. with_lines c.args.clock (args_words ds (Some a) x es) text) (sym c.in-Key.is))

pub returns-in-Reset : goal.returns-in-Reset
returns-in-Reset c es x st first is =
    let text = c.args.text.now.items in
    let ds = c.args.dispatcher.now.displays in
    same_after c.add_reset.result c.add_reset.new.text.items _ _ (c.add_reset.ensures es st)
    (one_line c.args.clock (reset_words c.in-Reset.device (scene ds es) es) text
    ∙ ap (λ a. with_lines c.args.clock (args_words ds (Some a) x es) text) (sym c.in-Reset.is))
