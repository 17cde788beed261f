use Rattle.std.proofs.Common.{◌≡◌, ◌<◌, drop}
use Rattle.std.specs.Char.{is_digit}
use Rattle.std.specs.List.{list_all}
use Rattle.std.specs.Str.Parse.{digits_value, digits_value_after}
use Rattle.key_layout.proofs.text.number.Given as goal

abbrev pub invariant-loop-b : goal.invariant-loop-b
invariant-loop-b l = record {
  digits : list_all (λ b. is_digit b l.base) (drop l.b-index l.digits) ≡ list_all (λ b. is_digit b l.base) l.digits;
  value : digits_value_after l.base l.n (drop l.b-index l.digits) ≡ digits_value l.base l.digits;
  bound : l.n < 65536;
}
