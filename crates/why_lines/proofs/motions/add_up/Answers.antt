use Rattle.std.proofs.Common.{◌++◌, ap₂, sym, ◌∙◌, ap}
use Rattle.std.proofs.Math.Path.{fun_ext}
use Rattle.why_text.specs.Lines.{up_words}
use Rattle.why_text.specs.Text.{line}
use Rattle.why_lines.proofs.Growing.{same_after}
use Rattle.why_lines.proofs.motions.add_up.Goals as goal

pub returns-then-is_cancelled : goal.returns-then-is_cancelled
returns-then-is_cancelled c s seen =
    let d = c.args.motion.now.device in
    same_after c.palm.result c.palm.new.text.items _ _ c.palm.ensures
    (ap₂ (λ b held. c.args.text.now.items ++ line c.args.clock (up_words b d c.args.id held)) (sym c.if-is_cancelled.true ∙ c.is_cancelled.ensures)
    (fun_ext (λ w. c.holding-held.ensures w ∙ sym (ap (λ f. f w d c.args.id) seen.stands.holds_are))))

pub returns-else-is_cancelled : goal.returns-else-is_cancelled
returns-else-is_cancelled c s seen =
    let d = c.args.motion.now.device in
    same_after c.up.result c.up.new.text.items _ _ c.up.ensures
    (ap₂ (λ b held. c.args.text.now.items ++ line c.args.clock (up_words b d c.args.id held)) (sym c.if-is_cancelled.false ∙ c.is_cancelled.ensures)
    (fun_ext (λ w. c.holding-held.ensures w ∙ sym (ap (λ f. f w d c.args.id) seen.stands.holds_are))))
