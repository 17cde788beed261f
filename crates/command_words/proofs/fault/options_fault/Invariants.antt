use Rattle.std.proofs.Common.{◌≡◌, ◌+◌, ◌≤◌, ◌++◌, [], take, length, map}
use Rattle.std.specs.Prelude.{string_bytes}
use Rattle.command_words.specs.Fault.{options_fault}
use Rattle.command_words.specs.Spelled.{spelled_of}
use Rattle.command_words.proofs.fault.options_fault.Given as goal

abbrev pub invariant-options : goal.invariant-options
invariant-options l = record {
  all : take l.count (spelled_of (map string_bytes l.words)) ++ spelled_of (map string_bytes l.rest) ≡ spelled_of (map string_bytes l.words);
  same :
      options_fault l.name (take l.count (spelled_of (map string_bytes l.words))) (spelled_of (map string_bytes l.rest))
      ≡ options_fault l.name [] (spelled_of (map string_bytes l.words));
  counted : length (take l.count (spelled_of (map string_bytes l.words))) ≡ l.count;
  within : l.count + length l.rest ≤ length l.words;
}

abbrev pub decreases-options : goal.decreases-options
decreases-options l = length l.rest
