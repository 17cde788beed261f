use Rattle.std.proofs.Common.{◌∙◌, sym, map}
use Rattle.std.specs.Prelude.{string_bytes}
use Rattle.command_words.specs.Options.{options_of}
use Rattle.command_words.proofs.Firsts.{all_read, next_some, none_read}
use Rattle.command_words.proofs.options.Options.of.Goals as goal

pub options-preserved : goal.options-preserved
options-preserved c =
    next_some (options_of (map string_bytes c.options.rest.now)) (options_of (map string_bytes c.in-Some.behind.now)) _ c.in-Some.ensures.some ∙ c.options.invariant

pub returns-in-None : goal.returns-in-None
returns-in-None c =
    none_read c.options.rest.now _ (sym c.is_empty.ensures ∙ c.options-test.true) c.in-None.ensures.none c.options.invariant

pub returns : goal.returns
returns c = all_read c.options.rest.now _ (sym c.is_empty.ensures ∙ c.options-test.false) c.options.invariant
