use Rattle.std.proofs.Common.{◌≡◌, ◌+◌, ◌==◌, not, drop}
use Rattle.std.specs.List.{prefix_len}
use Rattle.key_layout.proofs.text.comment_at.Given as goal

abbrev pub invariant-loop-b : goal.invariant-loop-b
invariant-loop-b l = record {
  place : l.count ≡ l.b-index;
  rest : l.count + prefix_len (λ b. not (b == 35)) (drop l.b-index l.line) ≡ prefix_len (λ b. not (b == 35)) l.line;
}
