use Rattle.std.proofs.Common.{◌∙◌, refl, ap, subst}
use Rattle.live_input.specs.declared.limit.Limited.{Limited}
use Rattle.plain_calls.specs.Getting.{AreWaiting}
use Rattle.inputflinger_c.proofs.Looking.{looked_at}
use Rattle.inputflinger_c.proofs.live_messages.inputflinger_proved_live_waiting.Goals as goal

pub returns : goal.returns
returns c =
    looked_at _ _ _ _ c.in-Some.service.value _ c.in-Some.ensures.taken c.put.ensures
    (refl, (refl, subst (λ s. AreWaiting s c.waiting.result) (c.live.ensures ∙ ap (λ (s : Limited). s.live) c.deref.ensures) c.waiting.ensures))
