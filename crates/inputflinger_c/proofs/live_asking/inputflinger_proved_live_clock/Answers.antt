use Rattle.std.proofs.Common.{◌∙◌, refl, ap, subst}
use Rattle.live_input.specs.declared.limit.Limited.{Limited}
use Rattle.plain_calls.specs.Asking.{IsClock}
use Rattle.inputflinger_c.proofs.Looking.{looked_at}
use Rattle.inputflinger_c.proofs.live_asking.inputflinger_proved_live_clock.Goals as goal

pub returns : goal.returns
returns c =
    looked_at _ _ _ _ c.in-Some.service.value _ c.in-Some.ensures.taken c.put.ensures
    (refl, (refl, subst (λ s. IsClock s c.clock.result) (c.live.ensures ∙ ap (λ (s : Limited). s.live) c.deref.ensures) c.clock.ensures))
