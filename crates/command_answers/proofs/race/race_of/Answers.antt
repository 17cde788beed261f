-- The race with what the devices of the session give.
use Rattle.std.proofs.Common.{reverse}
use Rattle.session_plan.specs.View.{plan_view}
use Rattle.command_answers.proofs.race.race_of.Goals as goal

pub returns-clause-ok : goal.returns-clause-ok
returns-clause-ok g c =
    c.race_run.ensures.ok (reverse c.args.events.now) (c.in_ok-all.ensures (plan_view c.args.session) c.in_ok-readers.ensures)

pub returns-clause-err : goal.returns-clause-err
returns-clause-err g c =
    c.race_run.ensures.err (reverse c.args.events.now) (c.in_ok-all.ensures (plan_view c.args.session) c.in_ok-readers.ensures)
