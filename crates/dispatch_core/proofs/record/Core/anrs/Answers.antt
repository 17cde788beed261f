-- None of them was released.
use Rattle.std.proofs.Common.{◌∙◌, ap, drop, reverse}
use Rattle.dispatch_history.specs.Due.{anrs}
use Rattle.dispatch_history.specs.Effects.{effects}
use Rattle.dispatch_core.specs.Recorded.{effects_of, history_of}
use Rattle.dispatch_core.proofs.record.Core.anrs.Goals as goal

pub returns : goal.returns
returns c =
    c.anrs.ensures _ c.self.invariant.0.after
    ∙ ap (λ n. drop n (anrs (effects c.self.inside.dispatcher.displays (history_of (reverse c.self.inside.entries.items))))) c.self.invariant.0.noted
    ∙ ap (λ r. anrs (effects_of r)) c.self.view_is
