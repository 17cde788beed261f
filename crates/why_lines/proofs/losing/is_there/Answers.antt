use Rattle.std.proofs.Common.{sym, ◌∙◌}
use Rattle.why_lines.proofs.AllLost.{no_channel}
use Rattle.why_lines.proofs.losing.is_there.Goals as goal

pub returns-else-is_channel-clause-value : goal.returns-else-is_channel-clause-value
returns-else-is_channel-clause-value c es st =
    sym (no_channel c.args.dispatcher.now.displays es c.args.channel st.lawful (sym c.is_channel.ensures ∙ c.if-is_channel.false))
