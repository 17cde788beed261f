-- The dispatcher has both moments.
use Rattle.std.proofs.Common.{◌≡◌, ◌||◌, Some, cond, sym, ap, ap₂, ◌∙◌, subst}
use Rattle.dispatcher.proofs.Laws.Standing.{after_of}
use Rattle.dispatcher.specs.Access.{any_waits, next_repeat}
use Rattle.live_input.specs.Settling.{sooner, timeout, waits}
use Rattle.live_input.specs.Standing.{LiveIs}
use Rattle.live_input.specs.State.{LiveState}
use Rattle.live_input.proofs.live.Live.due.Goals as goal

pub returns-then-waits : goal.returns-then-waits
returns-then-waits c = λ ds es h.
    let there = subst (LiveIs ds es) (sym c.self.view_is) h in
    let after = after_of es c.self.inside.dispatcher there.stands in
    let some : c.waits.result ≡ waits es c.args.self.now =
    c.waits.ensures
    ∙ ap₂ (λ a b. a || b) (c.is_waiting.ensures es after) (ap any_waits (c.deref.ensures.value ∙ ap (λ (s : LiveState). s.pending) c.self.view_is)) in
    ap Some (c.get.ensures.value ∙ ap (λ (s : LiveState). s.clock) c.self.view_is)
    ∙ sym (ap (λ b. cond b (Some c.args.self.now.clock) (sooner (timeout es) (next_repeat es))) (sym some ∙ c.if-waits.true))

pub returns-else-waits : goal.returns-else-waits
returns-else-waits c = λ ds es h.
    let there = subst (LiveIs ds es) (sym c.self.view_is) h in
    let after = after_of es c.self.inside.dispatcher there.stands in
    let some : c.waits.result ≡ waits es c.args.self.now =
    c.waits.ensures
    ∙ ap₂ (λ a b. a || b) (c.is_waiting.ensures es after) (ap any_waits (c.deref.ensures.value ∙ ap (λ (s : LiveState). s.pending) c.self.view_is)) in
    c.sooner.ensures ∙ ap₂ sooner (c.timeout.ensures es after) (c.repeat_due.ensures es after)
    ∙ sym (ap (λ b. cond b (Some c.args.self.now.clock) (sooner (timeout es) (next_repeat es))) (sym some ∙ c.if-waits.false))
