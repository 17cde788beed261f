use Rattle.std.proofs.Common.{ap, map}
use Rattle.std.specs.Prelude.{string_bytes}
use Rattle.command_words.proofs.Firsts.{with_joined}
use Rattle.command_words.proofs.options.first_of.Goals as goal

pub returns-in-Some-clause-some : goal.returns-in-Some-clause-some
returns-in-Some-clause-some c =
    let words = ap (map string_bytes) c.in_ok-word.ensures.cases.0 in
    let text = c.as_str.ensures.value in
    with_joined (map string_bytes c.args.words.now) (string_bytes c.in_ok-word.word.now) (map string_bytes c.in_ok-word.rest.now) _ words
    (rw text at c.in-Some.ensures.some.0) (rw text at c.in-Some.ensures.some.1)
