use Rattle.std.proofs.Common.{◌≡◌, ◌∙◌, refl, ap, subst}
use Rattle.live_input.specs.declared.client.Client.{Client}
use Rattle.live_input.specs.declared.limit.Limited.{Limited}
use Rattle.plain_calls.specs.Asking.{GetsKeys}
use Rattle.plain_calls.specs.Calling.{Replies, answer_status, written}
use Rattle.plain_calls.specs.Clients.{plain_client}
use Rattle.inputflinger_c.proofs.Looking.{looked_at}
use Rattle.inputflinger_c.proofs.live_asking.inputflinger_proved_live_key_target.Goals as goal

pub returns : goal.returns
returns c =
    looked_at _ _ _ _ c.in-Some.service.value _ c.in-Some.ensures.taken c.put.ensures (
      refl,
      subst (λ s. Replies (answer_status {A = Client}) c.key_target-status.result
          (λ r. GetsKeys s r × (c.key_target-status.new.client ≡ written plain_client r c.args.client.now)))
          (c.live.ensures ∙ ap (λ (s : Limited). s.live) c.deref.ensures) c.key_target-status.ensures,
    )
