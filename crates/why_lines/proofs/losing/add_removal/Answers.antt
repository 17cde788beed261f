use Rattle.std.proofs.Common.{◌≡◌, ◌++◌, true, false, cond, sym, ap, ◌∙◌}
use Rattle.dispatch_calls.specs.declared.reply.Reply.TheVariants.{Done, Gone}
use Rattle.dispatch_history.specs.Effect.{past_of}
use Rattle.dispatch_history.specs.History.{live}
use Rattle.why_text.specs.Lines.{removed_words}
use Rattle.why_text.specs.Text.{line}
use Rattle.why_lines.proofs.Growing.{same_after}
use Rattle.why_lines.proofs.losing.add_removal.Goals as goal

pub returns-then-is_there : goal.returns-then-is_there
returns-then-is_there c es x st loses =
    let w = c.args.channel in
    let lives : live (past_of es) w ≡ true = sym (c.is_there.ensures.value es st) ∙ c.if-is_there.true in
    same_after c.add_removed.result c.add_removed.new.text.items _ _ (c.add_removed.ensures es x st (loses lives))
    (ap (λ b. c.args.text.now.items ++ line c.args.clock (removed_words (cond b Done Gone) x es w)) (sym lives))

pub returns-else-is_there : goal.returns-else-is_there
returns-else-is_there c es x st loses =
    let w = c.args.channel in
    let dead : live (past_of es) w ≡ false = sym (c.is_there.ensures.value es st) ∙ c.if-is_there.false in
    same_after c.removed_gone.result c.removed_gone.new.text.items _ _ c.removed_gone.ensures
    (ap (λ b. c.args.text.now.items ++ line c.args.clock (removed_words (cond b Done Gone) x es w)) (sym dead))
