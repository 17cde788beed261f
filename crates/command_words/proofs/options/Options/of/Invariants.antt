use Rattle.std.proofs.Common.{◌≡◌, map, length}
use Rattle.std.specs.Prelude.{is_some, string_bytes}
use Rattle.command_words.specs.Options.{options_of}
use Rattle.command_words.proofs.options.Options.of.Given as goal

abbrev pub invariant-options : goal.invariant-options
invariant-options l = is_some (options_of (map string_bytes l.rest)) ≡ is_some (options_of (map string_bytes l.words))

abbrev pub decreases-options : goal.decreases-options
decreases-options l = length l.rest
