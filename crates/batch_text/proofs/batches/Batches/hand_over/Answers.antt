use Rattle.std.proofs.Common.{max, ap, ◌∙◌}
use Rattle.motion_batch.specs.Calls.{taken}
use Rattle.batch_text.proofs.Writing.{more_given}
use Rattle.batch_text.proofs.batches.Batches.hand_over.Goals as goal

pub returns : goal.returns
returns c = λ calls before text w.
    more_given calls (taken c.args.message.now) before text c.args.self.now c.take.new.self c.later-self.result c.args.self.now.shown c.take.new.out w
    (c.in_ok-take.ensures.stands calls w.stands)
    (c.later-self.ensures ∙ ap (λ n. max c.args.message.now.moment n) w.latest_is)
    w.shown_is
    (c.in_ok-take.ensures.items calls w.stands)
