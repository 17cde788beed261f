use Rattle.std.specs.Prelude.{◌≡◌, ◌++◌, replicate}
use Rattle.touch_writer.proofs.line.add_blanks.Given as goal

-- so many blanks were added
abbrev pub invariant-loop : goal.invariant-loop
invariant-loop l = l.text.items ≡ l.initial.text.items ++ replicate l.counter 32
