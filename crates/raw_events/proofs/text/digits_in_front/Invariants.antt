use Rattle.std.proofs.Common.{◌≡◌, ◌+◌, drop}
use Rattle.std.specs.Char.{is_digit}
use Rattle.std.specs.List.{prefix_len}
use Rattle.raw_events.proofs.text.digits_in_front.Given as goal

abbrev pub invariant-loop-b : goal.invariant-loop-b
invariant-loop-b l = record {
  place : l.count ≡ l.b-index;
  rest : l.count + prefix_len (λ b. is_digit b 10) (drop l.b-index l.bytes) ≡ prefix_len (λ b. is_digit b 10) l.bytes;
}
