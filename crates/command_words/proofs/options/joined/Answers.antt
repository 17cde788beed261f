use Rattle.std.proofs.Common.{arith}
use Rattle.std.proofs.lemmas.Str.Pattern.{split_once_first}
use Rattle.command_words.proofs.Equals.{no_equals}
use Rattle.command_words.proofs.options.joined.Goals as goal

pub returns-in-None-clause-none : goal.returns-in-None-clause-none
returns-in-None-clause-none c =
    let word = c.args.word.now in
    no_equals word (rw c.in-None.is at (split_once_first 61 word c.split_once.result c.split_once.ensures.cases (omega arith)))
