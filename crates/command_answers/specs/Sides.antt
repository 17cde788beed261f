-- The two stream files of `compare`.
use Rattle.std.specs.Prelude.{ℕ}
use Rattle.command_files.specs.Refused.{Refused, bad_got_line, bad_want_line}
use Rattle.command_answers.specs.declared.compare.Side.{Side}
use Rattle.command_answers.specs.declared.compare.Side.TheVariants.{Want, Got}

-- the refusal of one of them for a line that is bad or missing
abbrev pub bad_line_of : Side → ℕ → Refused
bad_line_of Want = bad_want_line
bad_line_of Got = bad_got_line
