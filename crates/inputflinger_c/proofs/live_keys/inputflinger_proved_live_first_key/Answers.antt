use Rattle.std.proofs.Common.{◌≡◌, ◌∙◌, ℕ, refl, ap, subst}
use Rattle.live_input.specs.declared.limit.Limited.{Limited}
use Rattle.plain_calls.specs.Calling.{Reads, Replies, answer_status, written}
use Rattle.plain_calls.specs.KeysDown.{IsFirstKey}
use Rattle.plain_calls.specs.Numbers.{device_of}
use Rattle.inputflinger_c.proofs.Looking.{looked_at}
use Rattle.inputflinger_c.proofs.live_keys.inputflinger_proved_live_first_key.Goals as goal

pub returns : goal.returns
returns c =
    looked_at _ _ _ _ c.in-Some.service.value _ c.in-Some.ensures.taken c.put.ensures (
      refl,
      subst (λ s. Reads (device_of c.args.device) c.first_key-status.result (c.first_key-status.new.scan ≡ c.args.scan.now)
          (λ d. Replies (answer_status {A = ℕ}) c.first_key-status.result
          (λ r. IsFirstKey s d c.args.from r × (c.first_key-status.new.scan ≡ written (λ n. n) r c.args.scan.now))))
          (c.live.ensures ∙ ap (λ (s : Limited). s.live) c.deref.ensures) c.first_key-status.ensures,
    )
