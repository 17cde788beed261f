use Rattle.std.proofs.Common.{sym, subst}
use Rattle.raw_events.specs.Front.{HeadSays}
use Rattle.raw_events.proofs.Heads.{head_says}
use Rattle.raw_events.proofs.front.front_with.Goals as goal

pub returns-clause-says : goal.returns-clause-says
returns-clause-says c = λ devices p. (
  c.requires.seconds,
  p,
  subst (λ moment. HeadSays devices c.args.head.now c.args.device moment) (sym c.moment_of.ensures)
      (head_says devices c.args.to_point.now c.args.digits.now c.args.part.now c.args.seconds c.in_ok-micros.micros c.args.device c.args.head.now c.requires.whole
      c.requires.seconds c.in_ok-micros.ensures.value p c.in_ok-micros.ensures.unended c.requires.short),
)
