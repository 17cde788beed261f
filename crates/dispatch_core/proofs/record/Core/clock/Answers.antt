use Rattle.std.proofs.Common.{◌∙◌, ap}
use Rattle.dispatch_history.specs.History.{clock}
use Rattle.dispatch_history.proofs.LegalLaws.{effects_law}
use Rattle.dispatch_core.specs.Recorded.{history_of}
use Rattle.dispatch_core.proofs.record.Core.clock.Goals as goal

pub returns : goal.returns
returns c =
    c.clock.ensures _ c.self.invariant.0.after
    ∙ ap clock (effects_law _ _)
    ∙ ap (λ r. clock (history_of r.entries)) c.self.view_is
