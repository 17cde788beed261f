-- By what the tables made of it.
use Rattle.std.proofs.Common.{arith}
use Rattle.dispatcher.proofs.Made.Answered.{may_step}
use Rattle.dispatcher.proofs.Rounds.PassedBy.{history_if_past, moves_if}
use Rattle.dispatcher.proofs.dispatcher.Dispatcher.move_past.Goals as goal

pub move_at_once-requires-clause-step : goal.move_at_once-requires-clause-step
move_at_once-requires-clause-step c = may_step c.self.inside.tables c.self.invariant.0 (omega (arith, c.in_ok-may_step_twice.ensures))

pub invariant_of-self : goal.invariant_of-self
invariant_of-self c =
    let at_once = c.move_at_once.ensures in (
      history_if_past c.move_at_once.result c.self.inside.tables c.move_at_once.new.tables c.args.now c.in-Motion.motion at_once.past at_once.none at_once.err
          c.self.invariant.0,
      at_once.promise c.self.invariant.1,
    )

pub returns-in-Ok-clause-past : goal.returns-in-Ok-clause-past
returns-in-Ok-clause-past c =
    moves_if c.move_at_once.result c.self.inside.tables c.move_at_once.new.tables c.args.self.now c.args.now c.args.args.now c.in-Motion.motion
    c.in-Motion.is c.self.view_is c.move_at_once.ensures.past
