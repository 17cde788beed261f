use Rattle.touch_writer.proofs.line.+add_digits.Given as goal

-- a digit less is left
abbrev pub decreases-add_digits : goal.decreases-add_digits
decreases-add_digits l = l.places
