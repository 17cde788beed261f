-- A request for the channel is taken back, and another one stays.
use Rattle.std.proofs.Common.{cond, false, None, sym, ap, ◌∙◌, subst}
use Rattle.std.specs.Prelude.{OnOk}
use Rattle.dispatch_calls.specs.declared.call.Call.TheVariants.{FocusOn}
use Rattle.dispatch_history.specs.Legal.{answered}
use Rattle.focus_resolver.specs.Resolver.{is_at}
use Rattle.live_input.specs.Standing.{LiveIs}
use Rattle.live_input.proofs.live.Live.forget_on.Goals as goal

pub returns-then-is_at-clause-after : goal.returns-then-is_at-clause-after
returns-then-is_at-clause-after c = λ ds es h.
    subst (λ b. OnOk c.request.result (LiveIs ds (cond b (answered ds (FocusOn c.args.now c.args.display None false) es) es) c.request.new.self))
    (sym (sym (ap (λ r. is_at r c.args.channel) (c.requested_on.ensures ds es h)) ∙ sym c.is_at.ensures ∙ c.if-is_at.true))
    (c.request.ensures.after ds es h tt)

pub returns-else-is_at-clause-after : goal.returns-else-is_at-clause-after
returns-else-is_at-clause-after c = λ ds es h.
    subst (λ b. LiveIs ds (cond b (answered ds (FocusOn c.args.now c.args.display None false) es) es) c.args.self.now)
    (sym (sym (ap (λ r. is_at r c.args.channel) (c.requested_on.ensures ds es h)) ∙ sym c.is_at.ensures ∙ c.if-is_at.false))
    h
