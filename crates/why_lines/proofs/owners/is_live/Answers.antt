use Rattle.std.proofs.Common.{sym, ◌∙◌}
use Rattle.why_lines.proofs.Targets.{uncounted}
use Rattle.why_lines.proofs.owners.is_live.Goals as goal

pub returns-in-None : goal.returns-in-None
returns-in-None c es st =
    uncounted c.args.dispatcher.now.displays es c.args.channel st.lawful (sym (c.counts.ensures es st) ∙ c.in-None.is)
