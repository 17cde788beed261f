use Rattle.std.proofs.Common.{◌≡◌, ◌+◌, ◌≤◌, length}
use Rattle.stream_text.specs.OrderText.{lines_from}
use Rattle.text_lines.specs.Lines.{lines_of}
use Rattle.stream_text.proofs.OrderReading.{behind}
use Rattle.stream_text.proofs.order.Order.read_all.Given as goal

abbrev pub invariant-lines : goal.invariant-lines
invariant-lines l = record {
  -- the lines so far, and then those that are left, are all
  read : behind l.order (lines_from l.number l.left (lines_of l.rest)) ≡ lines_from 2 l.count (lines_of l.initial.rest);
  number : l.number + length l.rest ≤ 2 + length l.bytes;
}

abbrev pub decreases-lines : goal.decreases-lines
decreases-lines l = l.left
