use Rattle.std.proofs.Common.{sym, arith}
use Rattle.std.proofs.lemmas.Fmt.{decimal_digit}
use Rattle.stream_text.proofs.writing.kept_digits.Digits.one.Goals as goal

pub returns : goal.returns
returns c = sym (decimal_digit 1 (omega arith))
