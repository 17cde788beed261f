-- The requested channel has the focus if it may.
use Rattle.std.proofs.Common.{◌≡◌, sym, ap, ◌∙◌}
use Rattle.dispatch_history.specs.Effect.{past_of}
use Rattle.dispatch_history.specs.History.{snapshot}
use Rattle.live_input.specs.State.{LiveState}
use Rattle.live_input.proofs.Asked.{focus_none, focus_seen, focus_unseen}
use Rattle.live_input.proofs.live.Live.focused.Goals as goal

pub returns-then-mask_has : goal.returns-then-mask_has
returns-then-mask_has c = λ ds es h.
    let k = c.in-Some.channel in
    let same : c.self.inside.windows ≡ snapshot (past_of es) = ap (λ (s : LiveState). s.windows) c.self.view_is ∙ h.windows_are in
    c.client_at.ensures
    ∙ focus_seen es c.args.self.now.seats h.seats_are c.self.inside.windows same c.args.display k
    (sym c.in-Some.is ∙ c.requested_on.ensures ds es h)
    (sym (c.focusable.ensures k) ∙ sym c.mask_has.ensures ∙ c.if-mask_has.true)

pub returns-else-mask_has : goal.returns-else-mask_has
returns-else-mask_has c = λ ds es h.
    let k = c.in-Some.channel in
    let same : c.self.inside.windows ≡ snapshot (past_of es) = ap (λ (s : LiveState). s.windows) c.self.view_is ∙ h.windows_are in
    focus_unseen es c.args.self.now.seats h.seats_are c.self.inside.windows same c.args.display k
    (sym c.in-Some.is ∙ c.requested_on.ensures ds es h)
    (sym (c.focusable.ensures k) ∙ sym c.mask_has.ensures ∙ c.if-mask_has.false)

pub returns-in-None : goal.returns-in-None
returns-in-None c = λ ds es h. focus_none es c.args.self.now.seats c.args.display (sym c.in-None.is ∙ c.requested_on.ensures ds es h)
