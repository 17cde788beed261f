use Rattle.std.proofs.Common.{◌≡◌, ◌∙◌, refl, ap, subst}
use Rattle.live_input.specs.declared.client.Client.{Client}
use Rattle.live_input.specs.declared.limit.Limited.{Limited}
use Rattle.plain_calls.specs.Asking.{HasFocus}
use Rattle.plain_calls.specs.Calling.{Reads, Replies, answer_status, written}
use Rattle.plain_calls.specs.Clients.{plain_client}
use Rattle.plain_calls.specs.Numbers.{display_of}
use Rattle.inputflinger_c.proofs.Looking.{looked_at}
use Rattle.inputflinger_c.proofs.live_asking.inputflinger_proved_live_focused.Goals as goal

pub returns : goal.returns
returns c =
    looked_at _ _ _ _ c.in-Some.service.value _ c.in-Some.ensures.taken c.put.ensures (
      refl,
      subst (λ s. Reads (display_of c.args.display) c.focused-status.result (c.focused-status.new.client ≡ c.args.client.now)
          (λ y. Replies (answer_status {A = Client}) c.focused-status.result
          (λ r. HasFocus s y r × (c.focused-status.new.client ≡ written plain_client r c.args.client.now))))
          (c.live.ensures ∙ ap (λ (s : Limited). s.live) c.deref.ensures) c.focused-status.ensures,
    )
