use Rattle.std.proofs.Common.{◌≡◌, ◌≤◌, drop}
use Rattle.std.specs.Char.{is_ascii_digit}
use Rattle.std.specs.List.{list_all}
use Rattle.std.specs.Str.Parse.{digits_value, digits_value_after}
use Rattle.command_words.proofs.number.number.Given as goal

abbrev pub invariant-loop-b : goal.invariant-loop-b
invariant-loop-b l = record {
  digits : list_all is_ascii_digit (drop l.b-index l.digits) ≡ list_all is_ascii_digit l.digits;
  value : digits_value_after 10 l.n (drop l.b-index l.digits) ≡ digits_value 10 l.digits;
  bound : l.n ≤ l.high;
}
