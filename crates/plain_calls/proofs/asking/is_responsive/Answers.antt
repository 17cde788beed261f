use Rattle.std.proofs.Common.{subst}
use Rattle.plain_calls.specs.Asking.{Responds}
use Rattle.plain_calls.proofs.asking.is_responsive.Goals as goal

pub returns : goal.returns
returns c =
    subst (λ k. Responds c.args.live.now k c.flag.result) c.read.ensures
    (record { answer = c.is_responsive.result; sent_is = c.flag.ensures; stale = c.is_responsive.ensures.stale; while_open = c.is_responsive.ensures.«open» })
