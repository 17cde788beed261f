use Rattle.std.proofs.Common.{sym, ◌∙◌, subst}
use Rattle.why_lines.specs.Holding.{HoldKeys}
use Rattle.why_lines.proofs.KeyHolders.{held_by, held_none}
use Rattle.why_lines.proofs.holders.holder_of.Goals as goal

pub returns-in-Some : goal.returns-in-Some
returns-in-Some c es st =
    c.window_of.ensures ∙ sym (held_by es c.in-Some.holder c.args.key.now (subst (HoldKeys es) c.in-Some.is (c.key_holder.ensures es st)))

pub returns-in-None : goal.returns-in-None
returns-in-None c es st = sym (held_none es c.args.key.now (subst (HoldKeys es) c.in-None.is (c.key_holder.ensures es st)))
