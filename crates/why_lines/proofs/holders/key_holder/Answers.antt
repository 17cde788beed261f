use Rattle.std.proofs.Common.{refl, sym, ◌∙◌, None}
use Rattle.why_lines.proofs.KeyHolders.{untargeted}
use Rattle.why_lines.proofs.holders.key_holder.Goals as goal

pub returns-in-Some : goal.returns-in-Some
returns-in-Some c es st = c.held_by.ensures es st (sym (c.target.ensures es st) ∙ c.in-Some.is)

pub returns-in-None : goal.returns-in-None
returns-in-None c es st w = untargeted c.args.dispatcher.now.displays es None w st.lawful (sym (c.target.ensures es st) ∙ c.in-None.is) refl
