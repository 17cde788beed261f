use Rattle.batch_text.proofs.Writing.{flush_given}
use Rattle.batch_text.proofs.batches.Batches.flush.Goals as goal

pub returns : goal.returns
returns c = λ calls before text w.
    flush_given c.flush.result calls before text c.args.self.now c.flush.new.self c.flush.new.out w (c.flush.ensures.stands calls w.stands) (c.flush.ensures.items calls w.stands)
