-- The channels reported by the call are recorded with those before.
use Rattle.std.proofs.Common.{◌||◌, sym, ap, ap₂, ◌∙◌, subst}
use Rattle.window_snapshot.specs.Mask.{mask_has}
use Rattle.dispatch_history.specs.Delivery.{is_reported_by}
use Rattle.dispatch_history.specs.Legal.{answered}
use Rattle.live_input.specs.Standing.{IsMaskOfHeld, LiveIs}
use Rattle.live_input.specs.State.{LiveState}
use Rattle.live_input.proofs.Following.{live_noted}
use Rattle.live_input.proofs.Reported.{named_more}
use Rattle.live_input.proofs.Union.{mask_union}
use Rattle.live_input.proofs.live.Live.note.Goals as goal

pub returns-in-Ok-clause-after : goal.returns-in-Ok-clause-after
returns-in-Ok-clause-after c = λ ds es h plain own.
    let there = subst (LiveIs ds (answered ds c.args.call.now es)) (sym c.self.view_is) (c.in-Ok.ensures.after ds es h plain own) in
    let rest = c.self.view_is ∙ c.apply.ensures.rest in
    live_noted ds (answered ds c.args.call.now es) _ _ there
    (subst (IsMaskOfHeld _) (sym (ap (λ (s : LiveState). s.seats) rest))
    (named_more ds es c.args.self.now h c.args.call.now _
    (λ k.
    mask_union _ _ k
    ∙ ap₂ (λ a b. a || b) (ap (λ (s : LiveState). mask_has s.reported k) rest)
    (c.reported_by.ensures k ∙ ap (λ r. is_reported_by c.args.call.now r k) (c.in-Ok.ensures.reply ds es h)))))

pub returns-in-Ok-clause-named : goal.returns-in-Ok-clause-named
returns-in-Ok-clause-named c = λ ds es h k.
    mask_union _ _ k
    ∙ ap₂ (λ a b. a || b) (ap (λ (s : LiveState). mask_has s.reported k) (c.self.view_is ∙ c.apply.ensures.rest))
    (c.reported_by.ensures k ∙ ap (λ r. is_reported_by c.args.call.now r k) (c.in-Ok.ensures.reply ds es h))
