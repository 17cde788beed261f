-- A channel has a message if the dispatcher lends one.
use Rattle.std.proofs.Common.{is_some, cond, sym, ap, ◌∙◌}
use Rattle.window_snapshot.specs.Mask.{mask_with}
use Rattle.live_input.proofs.Awaiting.{some_copied}
use Rattle.live_input.proofs.messages.with_waiting.Goals as goal

pub returns-then-is_some : goal.returns-then-is_some
returns-then-is_some c = λ es s.
    c.mask_with.ensures
    ∙ sym (ap (λ b. cond b (mask_with c.args.mask c.args.channel) c.args.mask)
    (sym (ap is_some (c.next.ensures es s)) ∙ sym (some_copied c.next.result) ∙ sym c.is_some.ensures ∙ c.if-is_some.true))

pub returns-else-is_some : goal.returns-else-is_some
returns-else-is_some c = λ es s.
    sym (ap (λ b. cond b (mask_with c.args.mask c.args.channel) c.args.mask)
    (sym (ap is_some (c.next.ensures es s)) ∙ sym (some_copied c.next.result) ∙ sym c.is_some.ensures ∙ c.if-is_some.false))
