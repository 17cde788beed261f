-- The focus is requested for the channel of the client.
use Rattle.std.proofs.Common.{◌≡◌, true, max, sym, ap, ap₂, ◌∙◌, subst}
use Rattle.dispatch_calls.specs.declared.call.Call.TheVariants.{FocusOn}
use Rattle.live_input.specs.Showing.{may_ask}
use Rattle.live_input.proofs.Handing.{made}
use Rattle.live_input.specs.Standing.{IsOfSome, LiveIs}
use Rattle.live_input.specs.State.{LiveState, latest}
use Rattle.live_input.proofs.Shown.{asks_held}
use Rattle.live_input.proofs.live.Live.focus.Goals as goal

pub returns-in-Ok-clause-after : goal.returns-in-Ok-clause-after
returns-in-Ok-clause-after c = λ ds es h.
    let at : c.later-now.result ≡ latest c.args.now c.args.self.now =
    c.later-now.ensures ∙ ap (λ (s : LiveState). max c.args.now s.clock) c.self.view_is in
    let may : may_ask c.args.self.now.seats c.args.client ≡ true =
    sym (ap (λ (s : LiveState). may_ask s.seats c.args.client) c.self.view_is) ∙ sym c.may_ask.ensures ∙ c.if-not-may_ask.false in
    let own = subst (λ o. IsOfSome o c.args.self.now.seats) (sym c.channel_of.ensures) (asks_held c.args.self.now.seats c.args.client may) in (
      may,
      made ds es _ c.later-now.result _ _ (ap₂ (λ n k. FocusOn n c.args.display k c.args.keys) at c.channel_of.ensures) at
          (subst (LiveIs ds _) (sym c.self-2.view_is) (c.in-Ok.ensures.after ds es h own)),
    )
