-- A drop forgets all contacts.
use Rattle.std.proofs.Common.{sym, ◌∙◌}
use Rattle.recording_counts.proofs.Touches.{dropped}
use Rattle.recording_counts.proofs.touch.Touching.take.Goals as goal

pub returns-then-is_drop-clause-after : goal.returns-then-is_drop-clause-after
returns-then-is_drop-clause-after c = λ slots past h.
    dropped slots past c.args.event.now c.args.self.now c.drop_all.new.self h c.if-self.false (sym c.is_drop.ensures ∙ c.if-is_drop.true)
    c.drop_all.ensures.void c.drop_all.ensures.slots c.drop_all.ensures.as_many c.drop_all.ensures.ids c.drop_all.ensures.held
