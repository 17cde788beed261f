-- What a client had is taken from it, step by step.
use Rattle.std.proofs.Common.{None, slice_index_or, sym, ap, ◌∙◌, subst}
use Rattle.dispatch_history.specs.Ordered.{extend}
use Rattle.live_input.specs.Closing.{hidden}
use Rattle.live_input.specs.Seats.{IsHeld, is_held, seat_of}
use Rattle.live_input.specs.Standing.{LiveIs}
use Rattle.window_snapshot.specs.Named.{is_named}
use Rattle.focus_resolver.specs.Resolver.{is_at}
use Rattle.live_input.proofs.Emptied.{unasked}
use Rattle.live_input.proofs.Results.{always, on_ok}
use Rattle.live_input.proofs.Taken.{taken_hidden, taken_left, taken_none}
use Rattle.live_input.proofs.live.Live.empty.Goals as goal

pub returns-clause-done : goal.returns-clause-done
returns-clause-done c = λ ds es h held.
    let a = c.in_ok-hide.ensures.after ds es h in
    let b = c.in_ok-forget.ensures.after ds _ a in
    c.drain.ensures.done ds _ b
    (held.0, held.1, ap (λ ss. is_held (seat_of ss c.args.channel)) (c.forget.ensures.rest.seats_are ∙ c.hide.ensures.rest.seats_are) ∙ held.2)

pub returns-clause-part : goal.returns-clause-part
returns-clause-part c = λ ds es h held.
    let fs = hidden ds c.args.now c.args.channel es in
    let b = c.in_ok-forget.ensures.part ds fs (c.in_ok-hide.ensures.after ds es h) in
    let still : IsHeld c.args.channel c.forget.new.self.seats = (held.0, held.1, ap (λ ss. is_held (seat_of ss c.args.channel)) (c.forget.ensures.rest.seats_are ∙ c.hide.ensures.rest.seats_are) ∙ held.2) in
    taken_hidden ds c.args.now c.args.channel es _
    (taken_left ds c.args.now c.args.channel fs _ _ b (c.drain.ensures.goes ds (extend ds fs b.calls) b.is still))

pub returns-clause-hidden : goal.returns-clause-hidden
returns-clause-hidden c =
    on_ok c.drain.result _ _ (always c.drain.result c.in_ok-hide.ensures.hidden)
    (λ e. ap (λ ws. is_named ws c.args.channel) (c.drain.ensures.windows ∙ c.forget.ensures.windows) ∙ e)

pub returns-clause-unasked : goal.returns-clause-unasked
returns-clause-unasked c = λ ds es h.
    let a = c.in_ok-hide.ensures.after ds es h in
    let b = c.in_ok-forget.ensures.after ds _ a in
    always c.drain.result
    (λ y low.
    ap (λ rs. is_at (slice_index_or rs y None) c.args.channel) c.drain.ensures.requests
    ∙ ap (λ o. is_at o c.args.channel) (b.requests_are.channels_are y low)
    ∙ unasked ds c.args.now c.args.channel (hidden ds c.args.now c.args.channel es) y low)

pub returns-in_err-hide-clause-part : goal.returns-in_err-hide-clause-part
returns-in_err-hide-clause-part c = λ ds es h held.
    taken_none ds c.args.now c.args.channel es _ (subst (LiveIs ds es) (sym c.in_err-hide.ensures.err) h)

pub returns-in_err-forget-clause-part : goal.returns-in_err-forget-clause-part
returns-in_err-forget-clause-part c = λ ds es h held.
    taken_hidden ds c.args.now c.args.channel es _ (c.in_err-forget.ensures.part ds _ (c.in_ok-hide.ensures.after ds es h))
