-- The coordinates are 32-bit numbers, so the pixel is that of the call.
use Rattle.std.proofs.Common.{◌≡◌, ◌∙◌, w32, refl, ap, ap₂, subst}
use Rattle.std.proofs.lemmas.Int.{to_z-of_z}
use Rattle.live_input.specs.declared.client.Client.{Client}
use Rattle.live_input.specs.declared.limit.Limited.{Limited}
use Rattle.plain_calls.specs.Calling.{Reads, Replies, answer_status, written}
use Rattle.plain_calls.specs.Clients.{plain_client}
use Rattle.plain_calls.specs.Numbers.{display_of}
use Rattle.plain_calls.specs.WindowAt.{IsTouched}
use Rattle.inputflinger_c.proofs.Looking.{looked_at, pixel}
use Rattle.inputflinger_c.proofs.live_window_at.inputflinger_proved_live_window_at.Goals as goal

pub returns : goal.returns
returns c =
    let same = ap₂ pixel (to_z-of_z w32 c.args.x c.ranges.x) (to_z-of_z w32 c.args.y c.ranges.y) in
    looked_at _ _ _ _ c.in-Some.service.value _ c.in-Some.ensures.taken c.put.ensures (
      refl,
      subst (λ s. Reads (display_of c.args.display) c.window_at-status.result (c.window_at-status.new.client ≡ c.args.client.now)
          (λ d. Replies (answer_status {A = Client}) c.window_at-status.result
          (λ r. IsTouched s d (pixel c.args.x c.args.y) r × (c.window_at-status.new.client ≡ written plain_client r c.args.client.now))))
          (c.live.ensures ∙ ap (λ (s : Limited). s.live) c.deref.ensures)
          (subst (λ p. Reads (display_of c.args.display) c.window_at-status.result (c.window_at-status.new.client ≡ c.args.client.now)
          (λ d. Replies (answer_status {A = Client}) c.window_at-status.result
          (λ r. IsTouched c.live.result.now d p r × (c.window_at-status.new.client ≡ written plain_client r c.args.client.now))))
          same c.window_at-status.ensures),
    )
