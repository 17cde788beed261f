-- The channel is added if its client is choked.
use Rattle.std.proofs.Common.{cond, sym, ap, ◌∙◌}
use Rattle.window_snapshot.specs.Mask.{mask_with}
use Rattle.live_input.proofs.live.Live.with_choked.Goals as goal

pub returns-then-is_choked_next : goal.returns-then-is_choked_next
returns-then-is_choked_next c = λ ds es h opened.
    c.mask_with.ensures
    ∙ sym (ap (λ b. cond b (mask_with c.args.mask c.args.channel) c.args.mask) (sym (c.is_choked_next.ensures ds es h opened) ∙ c.if-is_choked_next.true))

pub returns-else-is_choked_next : goal.returns-else-is_choked_next
returns-else-is_choked_next c = λ ds es h opened.
    sym (ap (λ b. cond b (mask_with c.args.mask c.args.channel) c.args.mask) (sym (c.is_choked_next.ensures ds es h opened) ∙ c.if-is_choked_next.false))
