use Rattle.std.proofs.Common.{List, sym, subst, reverse}
use Rattle.touch_state.specs.Touches.{Touches}
use Rattle.dispatch_history.specs.Effects.{effects}
use Rattle.dispatcher.specs.ReadLaws.{ReadsTouches}
use Rattle.dispatch_core.specs.Recorded.{Recorded, effects_of, history_of}
use Rattle.dispatch_core.proofs.record.Core.touches.Goals as goal

pub returns : goal.returns
returns c =
    let d = c.self.inside.dispatcher in
    let es = effects d.displays (history_of (reverse c.self.inside.entries.items)) in
    subst (λ (r : Recorded). ReadsTouches r.displays (effects_of r) c.touches.result.now) c.self.view_is
    (subst (λ (ts : List Touches). ReadsTouches d.displays es ts) (sym c.touches.ensures.value)
    (c.touches.ensures.reads es c.self.invariant.0.after))
