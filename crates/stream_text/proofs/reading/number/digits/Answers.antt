use Rattle.std.proofs.Common.{◌<◌, ◌+◌, ◌*◌, ◌-◌, get_or, sym, ◌∙◌, ap, arith}
use Rattle.stream_text.specs.Number.{at_most}
use Rattle.stream_text.proofs.Numbers.{too_large}
use Rattle.stream_text.proofs.reading.number.digits.Goals as goal

pub returns-then-n : goal.returns-then-n
returns-then-n c =
    let b = get_or c.loop-rest.rest.now 0 0 in
    let large : c.args.max < c.loop-rest.n * 10 + (b - 48) = omega (arith, c.ranges.max.fits) in
    sym (too_large c.loop-rest.n c.args.max c.loop-rest.rest.now c.in-len1-up.len_at_least (sym c.is_ascii_digit.ensures.value ∙ c.if-not-is_ascii_digit.false) large)
    ∙ ap (at_most c.args.max) c.loop-rest.invariant

pub returns-in_err-n : goal.returns-in_err-n
returns-in_err-n c =
    let b = get_or c.loop-rest.rest.now 0 0 in
    let large : c.args.max < c.loop-rest.n * 10 + (b - 48) = omega (arith, c.ranges.max.fits, c.from.ensures, c.in_err-n.ensures) in
    let none = sym (too_large c.loop-rest.n c.args.max c.loop-rest.rest.now c.in-len1-up.len_at_least (sym c.is_ascii_digit.ensures.value ∙ c.if-not-is_ascii_digit.false) large)
    ∙ ap (at_most c.args.max) c.loop-rest.invariant in
    rw c.from_residual.ensures none
