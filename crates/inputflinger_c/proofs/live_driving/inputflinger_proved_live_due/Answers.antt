use Rattle.std.proofs.Common.{◌≡◌, ℕ, refl, subst}
use Rattle.plain_calls.specs.Calling.{Replies, answer_status, written}
use Rattle.plain_calls.specs.Driving.{IsDue}
use Rattle.inputflinger_c.proofs.Looking.{looked_at}
use Rattle.inputflinger_c.proofs.live_driving.inputflinger_proved_live_due.Goals as goal

pub returns : goal.returns
returns c =
    looked_at _ _ _ _ c.in-Some.service.value _ c.in-Some.ensures.taken c.put.ensures (
      refl,
      subst (λ s. Replies (answer_status {A = ℕ}) c.due-status.result
          (λ r. IsDue s r × (c.due-status.new.moment_us ≡ written (λ (t : ℕ). t) r c.args.moment_us.now)))
          c.deref.ensures c.due-status.ensures,
    )
