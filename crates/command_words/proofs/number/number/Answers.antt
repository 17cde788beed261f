use Rattle.std.proofs.Common.{◌∙◌, sym}
use Rattle.command_words.proofs.Numbers.{digit_is, past_range}
use Rattle.command_words.proofs.number.number.Goals as goal

pub returns-then-n-high-clause-value : goal.returns-then-n-high-clause-value
returns-then-n-high-clause-value c =
    let digits = c.as_bytes-digits.ensures.value in
    let inside = rw digits at c.loop-b-test.true in
    let is = rw digits at c.loop-b.invariant.value in
    let above = rw (c.from.ensures, digits) at c.if-n-high.true in
    let is_one = sym (rw digits at c.is_ascii_digit.ensures.value) ∙ c.if-not-is_ascii_digit.false in
    sym (past_range c.args.low c.args.high c.loop-b.n c.loop-b.b-index _ c.args.value.now inside (digit_is _ is_one) is above)
