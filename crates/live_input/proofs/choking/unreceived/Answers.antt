-- What was sent and what was received are counted.
use Rattle.std.proofs.Common.{sym, ◌∙◌}
use Rattle.live_input.proofs.ChokedNext.{counted_some, counted_unreceived}
use Rattle.live_input.proofs.choking.unreceived.Goals as goal

pub returns-in-Some : goal.returns-in-Some
returns-in-Some c = λ es after opened.
    c.saturating_sub.ensures
    ∙ counted_unreceived es c.args.channel c.in-Some.counts opened (sym c.in-Some.is ∙ c.counts.ensures es after)

pub returns-in-None : goal.returns-in-None
returns-in-None c = λ es after opened. absurd (counted_some es c.args.channel opened (sym c.in-None.is ∙ c.counts.ensures es after))
