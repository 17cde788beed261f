use Rattle.std.proofs.Common.{◌∷◌, ◌++◌}
use Rattle.motion_batch.specs.Calls.{flushed, items}
use Rattle.batch_text.specs.Lines.{count_line, items_text}
use Rattle.batch_text.specs.Writing.{Written}
use Rattle.batch_text.proofs.Writing.{count_behind, last_written}
use Rattle.batch_text.proofs.batches.Batches.end.Goals as goal

pub returns : goal.returns
returns c = λ calls before w.
    let given = c.in_ok-flush.ensures calls before c.args.text.now.items w.writes in
    let text = c.write.new.text.items in
    let b = c.write.new.self in
    last_written c.add_count.result c.add_count.new.text.items text (count_line b.count) (before ++ items_text (items (flushed ∷ calls)))
    (count_behind (flushed ∷ calls) before text b (c.in_ok-write.ensures (flushed ∷ calls) before given))
    c.add_count.ensures
