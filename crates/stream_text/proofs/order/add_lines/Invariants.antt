use Rattle.std.proofs.Common.{◌≡◌, ◌++◌, drop}
use Rattle.stream_text.specs.Order.{lines_spelling}
use Rattle.stream_text.proofs.order.add_lines.Given as goal

-- the text so far, and then the lines that are left, are all
abbrev pub invariant-loop-line : goal.invariant-loop-line
invariant-loop-line l = l.text.items ++ lines_spelling (drop l.line-index l.lines) ≡ l.initial.text.items ++ lines_spelling l.lines
