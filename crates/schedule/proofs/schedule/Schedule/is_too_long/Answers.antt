-- What is counted is what there is.
use Rattle.std.proofs.Common.{◌∙◌, sym}
use Rattle.schedule.proofs.Running.{not_over, over}
use Rattle.schedule.proofs.schedule.Schedule.is_too_long.Goals as goal

pub returns-clause-too_long : goal.returns-clause-too_long
returns-clause-too_long c = λ how plan es r e. over how plan es c.args.self.now r (sym c.is_over.ensures ∙ e)

pub returns-clause-within : goal.returns-clause-within
returns-clause-within c = λ how plan es r e. not_over how plan es c.args.self.now r (sym c.is_over.ensures ∙ e)
