-- The windows are shown without that of the channel, if it has one.
use Rattle.std.proofs.Common.{◌≡◌, cond, sym, ap, ◌∙◌, subst}
use Rattle.std.specs.Prelude.{OnOk}
use Rattle.window_snapshot.specs.Named.{is_named}
use Rattle.dispatch_calls.specs.declared.call.Call.TheVariants.{Windows}
use Rattle.dispatch_history.specs.Effect.{past_of}
use Rattle.dispatch_history.specs.History.{snapshot}
use Rattle.dispatch_history.specs.Legal.{answered}
use Rattle.live_input.specs.Closing.{without}
use Rattle.live_input.specs.Standing.{AreOfHeld, LiveIs}
use Rattle.live_input.specs.State.{LiveState}
use Rattle.live_input.proofs.Emptied.{named_less, named_without}
use Rattle.live_input.proofs.Results.{on_ok}
use Rattle.live_input.proofs.live.Live.hide.Goals as goal

pub returns-then-not-has_window-clause-after : goal.returns-then-not-has_window-clause-after
returns-then-not-has_window-clause-after c = λ ds es h.
    let shown : c.windows.result.now ≡ snapshot (past_of es) = c.windows.ensures.windows ∙ ap (λ (s : LiveState). s.windows) c.self.view_is ∙ h.windows_are in
    let named : is_named (snapshot (past_of es)) c.args.channel ≡ c.has_window.result =
    sym (ap (λ ws. is_named ws c.args.channel) shown) ∙ sym c.has_window.ensures in
    subst (λ b. LiveIs ds (cond b (answered ds (Windows c.args.now (without c.args.channel (snapshot (past_of es)))) es) es) c.args.self.now)
    (sym (named ∙ c.if-not-has_window.true))
    h

pub returns-clause-after : goal.returns-clause-after
returns-clause-after c = λ ds es h.
    let kept : c.self.inside.windows ≡ snapshot (past_of es) = ap (λ (s : LiveState). s.windows) c.self.view_is ∙ h.windows_are in
    let named : is_named (snapshot (past_of es)) c.args.channel ≡ c.has_window.result =
    sym (ap (λ ws. is_named ws c.args.channel) (c.windows.ensures.windows ∙ kept)) ∙ sym c.has_window.ensures in
    let own =
    subst (λ ws. AreOfHeld ws c.args.self.now.seats) (sym (c.in_ok-others.ensures ∙ ap (without c.args.channel) kept))
    (λ d low is. h.tenants_are.shown d low (named_less c.args.channel d (snapshot (past_of es)) is)) in
    subst (λ b. OnOk c.show.result (LiveIs ds (cond b (answered ds (Windows c.args.now (without c.args.channel (snapshot (past_of es)))) es) es) c.show.new.self))
    (sym (named ∙ c.if-not-has_window.false))
    (subst (λ ws. OnOk c.show.result (LiveIs ds (answered ds (Windows c.args.now ws) es) c.show.new.self))
    (c.in_ok-others.ensures ∙ ap (without c.args.channel) kept)
    (c.show.ensures.after ds es h own))

pub returns-then-not-has_window-clause-hidden : goal.returns-then-not-has_window-clause-hidden
returns-then-not-has_window-clause-hidden c =
    ap (λ ws. is_named ws c.args.channel) (sym (c.windows.ensures.windows ∙ ap (λ (s : LiveState). s.windows) c.self.view_is))
    ∙ sym c.has_window.ensures ∙ c.if-not-has_window.true

pub returns-clause-hidden : goal.returns-clause-hidden
returns-clause-hidden c =
    on_ok c.show.result _ _ c.show.ensures.windows
    (λ e. ap (λ ws. is_named ws c.args.channel) (e ∙ c.in_ok-others.ensures) ∙ named_without c.args.channel c.self.inside.windows)
