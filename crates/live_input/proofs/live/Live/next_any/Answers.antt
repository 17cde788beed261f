-- The client of the first channel receives its next message.
use Rattle.std.proofs.Common.{sym, ap, ◌∙◌, subst}
use Rattle.live_input.specs.Receiving.{receives}
use Rattle.live_input.specs.Standing.{LiveIs}
use Rattle.live_input.specs.State.{LiveState}
use Rattle.live_input.proofs.Handouts.{client_found, hands_out, none_found, ready_now, ready_then}
use Rattle.live_input.proofs.live.Live.next_any.Goals as goal

pub returns-in_default-client_at-clause-hands : goal.returns-in_default-client_at-clause-hands
returns-in_default-client_at-clause-hands c = λ ds es h.
    let before = subst (LiveIs ds es) (sym c.self.view_is) h in
    let first = sym (c.soonest.ensures es (ready_now ds es _ before c.if-self.false)) ∙ c.in-Some.is in
    absurd (none_found ds es c.args.self.now c.in-Some.first h first (sym c.in_default-client_at.is ∙ c.client_at.ensures))

pub returns-in-Ok-clause-hands : goal.returns-in-Ok-clause-hands
returns-in-Ok-clause-hands c = λ ds es h.
    let before = subst (LiveIs ds es) (sym c.self.view_is) h in
    let first = sym (c.soonest.ensures es (ready_now ds es _ before c.if-self.false)) ∙ c.in-Some.is in
    let f = c.in-Some.first in
    let found = client_found ds es c.args.self.now f c.in-Some-client_at.client h first (sym c.in-Some-client_at.is ∙ c.client_at.ensures) in
    let after = c.in-Ok.ensures.after ds es h found.open_is in
    hands_out ds es c.args.self.now c.next.new.self f c.in-Some-client_at.client c.in-Ok.message c.with_client.result h first found
    (c.in-Ok.ensures.message ds es h found.open_is) after
    (c.with_client.ensures (receives ds es c.args.self.now c.in-Some-client_at.client.channel)
    (ready_then ds es c.args.self.now c.next.new.self c.in-Some-client_at.client.channel h (λ e. c.if-self.false (ap (λ (s : LiveState). s.steps.made) c.self.view_is ∙ e)) after))
