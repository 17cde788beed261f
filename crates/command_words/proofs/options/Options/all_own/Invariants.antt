use Rattle.std.proofs.Common.{◌≡◌, map, length}
use Rattle.std.specs.Prelude.{IsSome, string_bytes}
use Rattle.command_words.specs.Forms.{all_own}
use Rattle.command_words.specs.Options.{given_in, options_of}
use Rattle.command_words.proofs.options.Options.all_own.Given as goal

abbrev pub invariant-options : goal.invariant-options
invariant-options l = record {
  spelled : IsSome (options_of (map string_bytes l.rest));
  same : all_own l.name (given_in (map string_bytes l.rest)) ≡ all_own l.name l.self;
}

abbrev pub decreases-options : goal.decreases-options
decreases-options l = length l.rest
