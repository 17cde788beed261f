-- What was asked for the client is dropped, and the client is closed.
use Rattle.std.proofs.Common.{sym, ap₂, ◌∙◌}
use Rattle.std.proofs.lemmas.Bool.{true≢false}
use Rattle.live_input.specs.LimitedCalls.{released_on}
use Rattle.live_input.proofs.limit.Limited.close.Goals as goal

pub returns-then-not-is_open-clause-after : goal.returns-then-not-is_open-clause-after
returns-then-not-is_open-clause-after c = λ ds es h is. absurd (true≢false (sym is ∙ sym c.is_open.ensures ∙ c.if-not-is_open.true))

pub returns-in-Ok-clause-after : goal.returns-in-Ok-clause-after
returns-in-Ok-clause-after c = λ ds es h is.
    (c.in-Ok.ensures.after ds es h is, c.release.ensures ∙ ap₂ (released_on c.args.client.channel) c.is_right_without-shown.ensures c.leave.ensures)

pub returns-in-Err-clause-after : goal.returns-in-Err-clause-after
returns-in-Err-clause-after c = λ ds es h is. (c.in-Err.ensures.after ds es h is, c.leave.ensures)
