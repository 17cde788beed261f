use Rattle.std.proofs.Common.{◌≡◌, map, length}
use Rattle.std.specs.Prelude.{IsSome, string_bytes}
use Rattle.command_words.specs.Options.{given_in, options_of, values_of}
use Rattle.command_words.proofs.options.find.Given as goal

abbrev pub invariant-options : goal.invariant-options
invariant-options l = record {
  spelled : IsSome (options_of (map string_bytes l.rest));
  same : values_of (given_in (map string_bytes l.rest)) l.name ≡ values_of (given_in (map string_bytes l.words)) l.name;
}

abbrev pub decreases-options : goal.decreases-options
decreases-options l = length l.rest
