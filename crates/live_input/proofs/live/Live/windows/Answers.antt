-- The windows are shown by their channels.
use Rattle.std.proofs.Common.{◌≡◌, None, max, sym, ap, ap₂, ◌∙◌, subst}
use Rattle.dispatch_calls.specs.declared.call.Call.TheVariants.{Windows}
use Rattle.live_input.specs.Standing.{AreOfHeld, LiveIs}
use Rattle.live_input.specs.State.{LiveState, latest}
use Rattle.live_input.specs.Windows.{first_stale}
use Rattle.live_input.proofs.Handing.{made}
use Rattle.live_input.proofs.Shown.{windows_held}
use Rattle.live_input.proofs.live.Live.windows.Goals as goal

pub returns-in-Ok-show-clause-after : goal.returns-in-Ok-show-clause-after
returns-in-Ok-show-clause-after c = λ ds es h.
    let at : c.later-now.result ≡ latest c.args.now c.args.self.now =
    c.later-now.ensures ∙ ap (λ (s : LiveState). max c.args.now s.clock) c.self.view_is in
    let all_open : first_stale c.args.self.now.seats c.args.windows.items ≡ None =
    sym (ap₂ (λ (s : LiveState) ws. first_stale s.seats ws) c.self.view_is c.deref.ensures.value) ∙ sym c.first_stale.ensures ∙ c.in_default.is in
    let own = subst (λ ws. AreOfHeld ws c.args.self.now.seats) (sym c.in-Ok.ensures.0) (windows_held c.args.self.now.seats c.args.windows.items all_open) in (
      all_open,
      c.in-Ok.ensures.1,
      made ds es _ c.later-now.result _ _ (ap₂ (λ n ws. Windows n ws) at c.in-Ok.ensures.0) at
          (subst (LiveIs ds _) (sym c.self-in-Ok.view_is) (c.in-Ok-show.ensures.after ds es h own)),
    )
