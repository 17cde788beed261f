use Rattle.std.proofs.Common.{◌≡◌, ◌+◌, ◌≤◌, length}
use Rattle.stream_text.specs.OrderText.{lines_passed}
use Rattle.text_lines.specs.Lines.{lines_of}
use Rattle.stream_text.proofs.order_front.pass_lines.Given as goal

abbrev pub invariant-lines : goal.invariant-lines
invariant-lines l = record {
  -- what is left to pass over is what is left of all
  passed : lines_passed l.number l.left (lines_of l.rest) ≡ lines_passed 2 l.count (lines_of l.bytes);
  number : l.number + length l.rest ≤ 2 + length l.bytes;
}

abbrev pub decreases-lines : goal.decreases-lines
decreases-lines l = l.left
