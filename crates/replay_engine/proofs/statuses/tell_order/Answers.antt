-- The line of each refusal.
use Rattle.replay_engine.proofs.statuses.tell_order.Goals as goal

pub returns-in-BadLine : goal.returns-in-BadLine
returns-in-BadLine g c = rw c.in-BadLine.is c.tell_number.ensures

pub returns-in-NoStep : goal.returns-in-NoStep
returns-in-NoStep g c = rw c.in-NoStep.is c.tell_number-in-NoStep.ensures
