use Rattle.std.proofs.Common.{sym, ◌∙◌}
use Rattle.stream_text.proofs.Numbers.{after_short}
use Rattle.stream_text.proofs.reading.number.past.Goals as goal

pub returns-in-empty : goal.returns-in-empty
returns-in-empty c =
    sym (after_short c.as_bytes-w-items.result.now c.loop-w.w-index c.loop-w.rest.now c.loop-w-test.true c.in-empty.len_below) ∙ c.loop-w.invariant
