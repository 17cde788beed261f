use Rattle.std.proofs.Common.{arith, ◌∙◌}
use Rattle.stream_text.proofs.Triples.{front_of, more_long}
use Rattle.stream_text.proofs.writing.kept_digits.Counted.prepend_anew.Goals as goal

pub keep-requires : goal.keep-requires
keep-requires c =
    let long = more_long c.args.number c.if-number-ge1000.true c.ranges.number.fits in
    (omega arith, omega arith, omega arith, omega arith)

pub invariant_of-self : goal.invariant_of-self
invariant_of-self c =
    let at = c.prepend_number-at in (
      omega arith,
      omega arith,
      c.keep.ensures ∙ front_of c.args.number at.result c.args.end at.new.line _ (omega arith) c.ranges.number.fits at.ensures.start at.ensures.written,
    )

pub overflow_sub-end-then-number-ge1000 : goal.overflow_sub-end-then-number-ge1000
overflow_sub-end-then-number-ge1000 c =
    let long = more_long c.args.number c.if-number-ge1000.true c.ranges.number.fits in
    omega arith
