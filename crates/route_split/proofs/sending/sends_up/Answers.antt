use Rattle.std.proofs.Common.{subst}
use Rattle.split_motion.specs.Laws.{if_some}
use Rattle.route_split.specs.Sending.{IsSent}
use Rattle.route_split.proofs.sending.sends_up.Goals as goal

pub returns : goal.returns
returns c d last before =
    subst (λ m. IsSent c.one_of.result (if_some m) d last before)
    (c.split.ensures)
    (c.one_of.ensures d last before)
