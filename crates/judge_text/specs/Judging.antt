-- A stream file judged line by line.
use Rattle.std.specs.Prelude.{◌≡◌, ℕ, ◌+◌, List, [], ◌∷◌, ◌++◌, Option, None, Result, Ok, Err}
use Rattle.std.specs.Option.{option_map, option_or}
use Rattle.input_types.specs.declared.message.Message.{Message as Told}
use Rattle.gesture_verifier.specs.declared.reason.Reason.{Reason}
use Rattle.gesture_verifier.specs.Told.{Told as Tables, VerifierStandsFor}
use Rattle.stream_text.specs.declared.stream_line.StreamLine.{StreamLine}
use Rattle.stream_text.specs.declared.stream_line.StreamLine.TheVariants.{Message, End}
use Rattle.stream_text.specs.StreamFile.{Event}
use Rattle.stream_judge.specs.Sections.{messages_at, messages_left, sections_at, sections_left, sent_after}
use Rattle.judge_text.specs.declared.error.JudgeError.{JudgeError}
use Rattle.judge_text.specs.declared.error.JudgeError.TheVariants.{BadLine}
use Rattle.judge_text.specs.Broken.{reason_behind}
use Rattle.judge_text.specs.Down.{Down, down_after}
use Rattle.judge_text.specs.Judged.{answer, something, whole_line}

-- the number of a line, if its message may not come after those of its section, and why
abbrev pub broken_at : List Told → ℕ → StreamLine → Option (ℕ × Reason)
broken_at past n (Message m) = option_map (λ why. (n, why)) (reason_behind past m)
broken_at past n _ = None

-- the number of a line, if it ends a section after which something is down
abbrev pub down_at : List Told → ℕ → StreamLine → Option (ℕ × Down)
down_at past n (End id sent received finished) = something n (down_after past)
down_at past n _ = None

-- what is written of a section at its end
abbrev pub lines_at : StreamLine → List ℕ
lines_at (End id sent received finished) = whole_line id sent
lines_at _ = []

-- the first break of the lines that are left
abbrev pub broken_left : List Told → List Event → Option (ℕ × Reason)
broken_left past [] = None
broken_left past (e ∷ es) = option_or (broken_at past e.0 e.1) (broken_left (sent_after past e.1) es)

-- the first section of them after which something is down
abbrev pub down_left : List Told → List Event → Option (ℕ × Down)
down_left past [] = None
down_left past (e ∷ es) = option_or (down_at past e.0 e.1) (down_left (sent_after past e.1) es)

-- what is written of them
abbrev pub lines_left : List Event → List ℕ
lines_left [] = []
lines_left (e ∷ es) = lines_at e.1 ++ lines_left es

-- what a judge knows: the tables of the open section, the first break, the first section after which something is down, how many sections
-- and messages there were, and what is written
pub record Known : Type 0 where
  pub tables : Tables
  pub broken : Option (ℕ × Reason)
  pub down : Option (ℕ × Down)
  pub sections : ℕ
  pub messages : ℕ
  pub lines : List ℕ

-- up to the first break the tables are those of the messages of the open section
abbrev pub Knows : List Told → Known → Type 0
Knows past j = j.broken ≡ None → VerifierStandsFor past j.tables

-- what is known after a line
pub record Takes (past : List Told) (n : ℕ) (line : StreamLine) (old new : Known) : Type 0 where
  pub knows : Knows (sent_after past line) new
  pub broken : new.broken ≡ option_or old.broken (broken_at past n line)
  pub down : new.broken ≡ None → new.down ≡ option_or old.down (down_at past n line)
  pub sections : new.sections ≡ old.sections + sections_at line
  pub messages : new.messages ≡ old.messages + messages_at line
  pub lines : new.lines ≡ old.lines ++ lines_at line

-- what is said, with what is known and with the lines that are left
abbrev pub judged_on : Known → List Told → Result (List Event) ℕ → Result (List ℕ) JudgeError
judged_on j past (Err bad) = Err (BadLine bad)
judged_on j past (Ok es) =
    answer (option_or j.broken (broken_left past es)) (option_or j.down (down_left past es)) (j.sections + sections_left es) (j.messages + messages_left es)
    (j.lines ++ lines_left es)
