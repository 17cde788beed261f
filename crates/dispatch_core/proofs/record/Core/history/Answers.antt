use Rattle.std.proofs.Common.{subst}
use Rattle.dispatch_history.specs.Legal.{Legal}
use Rattle.dispatch_core.specs.Recorded.{history_of}
use Rattle.dispatch_core.proofs.Recording.{legal_of}
use Rattle.dispatch_core.proofs.record.Core.history.Goals as goal

pub returns-clause-legal : goal.returns-clause-legal
returns-clause-legal c =
    subst (λ r. Legal r.displays (history_of r.entries)) c.self.view_is (legal_of _ c.self.inside.dispatcher c.self.invariant.0)
