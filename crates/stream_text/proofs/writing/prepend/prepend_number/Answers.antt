use Rattle.std.proofs.Common.{arith, append_assoc}
use Rattle.std.proofs.lemmas.Fmt.{length-decimal-le}
use Rattle.stream_text.proofs.Triples.{more, more_long, at_least}
use Rattle.stream_text.proofs.writing.prepend.prepend_number.Goals as goal

pub put_triple-requires : goal.put_triple-requires
put_triple-requires c =
    let most = length-decimal-le 20 c.args.number (omega arith) (omega arith) c.ranges.number.fits in
    let long = more_long c.loop-left.left c.loop-left-test.true c.loop-left.auto.left-fits.fits in
    (omega arith, omega arith, omega arith)

pub overflow_sub-at : goal.overflow_sub-at
overflow_sub-at c =
    let most = length-decimal-le 20 c.args.number (omega arith) (omega arith) c.ranges.number.fits in
    let long = more_long c.loop-left.left c.loop-left-test.true c.loop-left.auto.left-fits.fits in
    omega arith

pub loop-left-preserved : goal.loop-left-preserved
loop-left-preserved c =
    let l = c.loop-left in
    let most = length-decimal-le 20 c.args.number (omega arith) (omega arith) c.ranges.number.fits in
    let long = more_long l.left c.loop-left-test.true l.auto.left-fits.fits in (
      omega arith,
      omega arith,
      rw (c.put_triple.ensures.three) (rw (more l.left c.loop-left-test.true l.auto.left-fits.fits, append_assoc) at l.invariant.2),
    )

pub put_triple-requires-2 : goal.put_triple-requires-2
put_triple-requires-2 c =
    let most = length-decimal-le 20 c.args.number (omega arith) (omega arith) c.ranges.number.fits in
    let some = at_least c.loop-left.left c.loop-left.auto.left-fits.fits in
    (omega arith, omega arith, omega arith)

pub returns-clause-within : goal.returns-clause-within
returns-clause-within c =
    let most = length-decimal-le 20 c.args.number (omega arith) (omega arith) c.ranges.number.fits in
    let some = at_least c.loop-left.left c.loop-left.auto.left-fits.fits in
    let count = c.put_triple-2.ensures.count in
    (omega arith, omega arith)
