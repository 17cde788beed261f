use Rattle.std.proofs.Common.{◌≡◌, ◌<◌, ◌^◌, drop}
use Rattle.std.specs.Char.{is_digit}
use Rattle.std.specs.List.{list_all}
use Rattle.std.specs.Str.Parse.{digits_value_after, digits_value}
use Rattle.raw_events.proofs.text.decimal.Given as goal

abbrev pub invariant-loop-b : goal.invariant-loop-b
invariant-loop-b l = record {
  digits : list_all (λ b. is_digit b 10) (drop l.b-index l.digits) ≡ list_all (λ b. is_digit b 10) l.digits;
  value : digits_value_after 10 l.n (drop l.b-index l.digits) ≡ digits_value 10 l.digits;
  bound : l.n < 10 ^ l.b-index;
}
