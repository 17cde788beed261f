use Rattle.std.proofs.Common.{refl}
use Rattle.motion_batch.specs.Calls.{framed}
use Rattle.batch_text.proofs.Writing.{more_given}
use Rattle.batch_text.proofs.batches.Batches.show.Goals as goal

pub returns : goal.returns
returns c = λ calls before text w.
    more_given calls (framed c.args.at) before text c.args.self.now c.frame.new.self c.args.self.now.latest c.args.at c.frame.new.out w
    (c.in_ok-frame.ensures.stands calls w.stands)
    w.latest_is
    refl
    (c.in_ok-frame.ensures.items calls w.stands)
