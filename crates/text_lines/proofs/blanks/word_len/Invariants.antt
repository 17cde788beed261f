use Rattle.std.proofs.Common.{◌≡◌, ◌+◌, drop}
use Rattle.text_lines.specs.Blanks.{word_len}
use Rattle.text_lines.proofs.blanks.word_len.Given as goal

abbrev pub invariant-loop-b : goal.invariant-loop-b
invariant-loop-b l = record {
  place : l.count ≡ l.b-index;
  rest : l.count + word_len (drop l.b-index l.bytes) ≡ word_len l.bytes;
}
