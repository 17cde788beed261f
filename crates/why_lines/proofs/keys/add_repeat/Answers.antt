use Rattle.std.proofs.Common.{◌≡◌, true, false, cond, [], None, sym, ap, ◌∙◌}
use Rattle.dispatch_history.specs.KeySent.{last_key, repeat_due}
use Rattle.dispatch_history.specs.Reply.{is_due}
use Rattle.why_text.specs.Lines.{repeat_words}
use Rattle.why_lines.specs.Growing.{with_lines}
use Rattle.why_lines.proofs.Growing.{no_line, same_after}
use Rattle.why_lines.proofs.Pumping.{due_some}
use Rattle.why_lines.proofs.keys.add_repeat.Goals as goal

pub returns-then-is_due : goal.returns-then-is_due
returns-then-is_due c es st waits =
    let text = c.args.text.now.items in
    let due : is_due (repeat_due es) c.args.clock ≡ true =
    ap (λ o. is_due o c.args.clock) (ap (λ b. cond b None (repeat_due es)) (sym waits) ∙ sym (c.repeat_due.ensures es st)) ∙ sym c.is_due.ensures ∙ c.if-is_due.true in
    same_after c.add_due.result c.add_due.new.text.items _ _ (c.add_due.ensures es st (due_some (repeat_due es) c.args.clock due))
    (ap (λ b. with_lines c.args.clock (cond b (repeat_words (last_key es)) []) text) (sym due))

pub returns-else-is_due : goal.returns-else-is_due
returns-else-is_due c es st waits =
    let text = c.args.text.now.items in
    let due : is_due (repeat_due es) c.args.clock ≡ false =
    ap (λ o. is_due o c.args.clock) (ap (λ b. cond b None (repeat_due es)) (sym waits) ∙ sym (c.repeat_due.ensures es st)) ∙ sym c.is_due.ensures ∙ c.if-is_due.false in
    no_line c.args.clock text ∙ ap (λ b. with_lines c.args.clock (cond b (repeat_words (last_key es)) []) text) (sym due)
