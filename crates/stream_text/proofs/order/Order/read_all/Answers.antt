use Rattle.std.proofs.Common.{◌≡◌, arith}
use Rattle.stream_text.specs.OrderText.{lines_from, order_of}
use Rattle.text_lines.specs.Lines.{lines_of}
use Rattle.stream_text.proofs.OrderReading.{all_read}
use Rattle.stream_text.proofs.order.Order.read_all.Goals as goal

pub returns : goal.returns
unfolding order_of
returns c =
    let none : c.lines.left ≡ 0 = omega arith in
    rw c.first_line-head.ensures.lines
    (rw (← c.in-Some.ensures)
    (all_read c.lines.order c.lines.number c.lines.left (lines_of c.lines.rest.now) (lines_from 2 c.in-Some.count (lines_of c.first_line-head.result.rest.now)) none c.lines.invariant.read))
