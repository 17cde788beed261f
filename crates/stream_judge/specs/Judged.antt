-- The answer for a stream file that is judged.
use Rattle.std.specs.Prelude.{◌≡◌, ℕ, ◌+◌, List, [], ◌∷◌, Option, Some, None, Result, Ok, Err}
use Rattle.stream_text.specs.StreamFile.{Event, Stream}
use Rattle.stream_judge.specs.declared.error.FileError.{FileError}
use Rattle.stream_judge.specs.declared.error.FileError.TheVariants.{BadLine, NotWellFormed, Memory}
use Rattle.stream_judge.specs.Breaks.{first_break}

-- an answer, if there is no break
abbrev pub unless_broken : {A : Type 0} → Option ℕ → A → Result A FileError
unless_broken None a = Ok a
unless_broken (Some line) a = Err (NotWellFormed line)

-- The result for the streams of a file: a file with a bad line is refused for it, and only a file without one is
-- judged by the rule for streams.
abbrev pub judged : {A : Type 0} → (List Stream → A) → Result (List Stream) ℕ → Result A FileError
judged f (Err bad) = Err (BadLine bad)
judged f (Ok streams) = unless_broken (first_break streams) (f streams)

-- what is judged is refused so, or memory ran out
abbrev pub Refuses : {A : Type 0} → Result A FileError → FileError → Type 0
Refuses judged (BadLine line) = judged ≡ Err (BadLine line)
Refuses judged (NotWellFormed line) = judged ≡ Err (NotWellFormed line)
Refuses judged Memory = Unit {0}

-- lines that are numbered one after another from line `n` on
abbrev pub AreNumbered : ℕ → List Event → Type 0
AreNumbered n [] = Unit {0}
AreNumbered n (event ∷ events) = (event.0 ≡ n) × AreNumbered (n + 1) events

-- the remaining lines are numbered from line `n` on, if none of them is bad
abbrev pub Numbers : ℕ → Result (List Event) ℕ → Type 0
Numbers n (Ok events) = AreNumbered n events
Numbers n (Err bad) = Unit {0}

-- why a file is refused with a break in this line and these lines after it
abbrev pub refused_at : ℕ → Result (List Event) ℕ → FileError
refused_at line (Ok events) = NotWellFormed line
refused_at line (Err bad) = BadLine bad
