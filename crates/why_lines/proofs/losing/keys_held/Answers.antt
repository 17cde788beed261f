use Rattle.std.proofs.Common.{sym, ◌∙◌, subst}
use Rattle.why_lines.specs.Holding.{HoldKeys}
use Rattle.why_lines.proofs.AllLost.{keys_here}
use Rattle.why_lines.proofs.Growing.{if_then}
use Rattle.why_lines.proofs.losing.keys_held.Goals as goal

pub returns-in-Some : goal.returns-in-Some
returns-in-Some c es st =
    if_then c.keys_at.result _ _ c.keys_at.ensures
    (λ v e. e ∙ keys_here es c.in-Some.holder c.args.window (subst (HoldKeys es) c.in-Some.is (c.key_holder.ensures es st)))

pub returns-in-None : goal.returns-in-None
returns-in-None c es st = c.new.ensures.items ∙ sym (subst (HoldKeys es) c.in-None.is (c.key_holder.ensures es st) c.args.window)
