-- What is written of a race.
use Rattle.std.specs.Prelude.{List, ℕ}
use Rattle.outside_io.specs.Trace.{Writing}
use Rattle.text_output.specs.Passing.{WritesText}
use Rattle.replay_actors.specs.declared.part.RaceEnd.{RaceEnd}
use Rattle.command_answers.specs.RaceEnds.{PrintsEnd}

-- The output took a text whole: what the end of a race prints, if the end is one of these.
abbrev pub WroteEnd : (RaceEnd → Type 0) → Writing → Writing → Type 0
WroteEnd left before now = (text : List ℕ) × PrintsEnd left text × WritesText before now text
