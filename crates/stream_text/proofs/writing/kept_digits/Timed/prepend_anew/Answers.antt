use Rattle.std.proofs.Common.{◌/◌, arith, ◌∙◌}
use Rattle.std.proofs.lemmas.Fmt.{length-decimal-le}
use Rattle.stream_text.proofs.Triples.{at_least, front_of_six, more_long}
use Rattle.stream_text.proofs.writing.kept_digits.Timed.prepend_anew.Goals as goal

pub keep-requires : goal.keep-requires
keep-requires c =
    let long = more_long c.args.moment (omega arith) c.ranges.moment.fits in
    let longer = more_long (c.args.moment / 1000) (omega arith) (omega arith) in
    let some = at_least (c.args.moment / 1000 / 1000) (omega arith) in
    let most = length-decimal-le 20 c.args.moment (omega arith) (omega arith) c.ranges.moment.fits in
    (omega arith, omega arith, omega arith, omega arith)

pub invariant_of-self : goal.invariant_of-self
invariant_of-self c =
    let at = c.prepend_number-at in (
      omega arith,
      omega arith,
      c.keep.ensures ∙ front_of_six c.args.moment at.result c.args.end at.new.line _ (omega arith) c.ranges.moment.fits at.ensures.start at.ensures.written,
    )
