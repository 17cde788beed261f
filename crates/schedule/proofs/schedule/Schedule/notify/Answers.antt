-- By the call that is put together, and by itself.
use Rattle.std.proofs.Common.{◌≡◌, ◌+◌, ◌∙◌, refl, sym, subst, arith}
use Rattle.dispatch_calls.specs.declared.call.Call.TheVariants.{Notify}
use Rattle.dispatch_history.specs.Effect.{past_of}
use Rattle.dispatch_history.specs.Ordered.{scripted}
use Rattle.dispatcher.proofs.Made.Following.{known_so}
use Rattle.schedule.specs.State.{HasWith}
use Rattle.schedule.proofs.Caused.{applies_silent}
use Rattle.schedule.proofs.More.{stayed, stepped}
use Rattle.schedule.proofs.Stepping.{has_step}
use Rattle.schedule.proofs.schedule.Schedule.notify.Goals as goal

pub returns-then-is_some-clause-after : goal.returns-then-is_some-clause-after
returns-then-is_some-clause-after c = λ how plan es h.
    let before = subst (HasWith how plan es) (sym c.self.view_is) h in
    c.apply.ensures.after how plan es h refl (let n : c.self.inside.next ≡ 0 + scripted (past_of es) = omega (arith, before.next_is) in n)

pub returns-in-Ok-clause-after : goal.returns-in-Ok-clause-after
returns-in-Ok-clause-after c = λ how plan es h.
    let before = subst (HasWith how plan es) (sym c.self.view_is) h in
    let there = known_so _ _ _ c.in-Ok.ensures.ok.goes es before.stands in
    has_step how plan es _ _ before c.in-Ok.ensures.ok.goes.displays_are c.in-Ok.ensures.ok.goes.gone_are c.in-Ok.ensures.ok.goes.anrs_are refl (Notify c.args.now c.args.args.now)
    (applies_silent (Notify c.args.now c.args.args.now) es _ c.self.inside.causes (λ text. text.items) _ (sym c.is_some.ensures ∙ c.if-is_some.false) there) refl
    refl (let n : c.self.inside.next ≡ 0 + scripted (past_of es) = omega (arith, before.next_is) in n)
    c.saturating_add-self-inside.ensures

pub returns-in-Ok-clause-kept : goal.returns-in-Ok-clause-kept
returns-in-Ok-clause-kept c = stepped (Notify c.args.now c.args.args.now) _ _ _ c.self.view_is refl c.in-Ok.ensures.ok.goes

pub returns-in-Err-clause-kept : goal.returns-in-Err-clause-kept
returns-in-Err-clause-kept c = stayed _ _ _ c.self.view_is refl c.in-Err.ensures.err
