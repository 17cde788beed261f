-- A stream file judged line by line.
use Rattle.std.specs.Prelude.{◌≡◌, ℕ, ◌+◌, if◌then◌else◌, List, ◌∷◌, Option, Some, None, Result, Ok, Err, []}
use Rattle.std.specs.Option.{option_or}
use Rattle.input_types.specs.declared.message.Message.{Message as Told}
use Rattle.input_types.specs.StreamRule.{is_well_formed}
use Rattle.gesture_verifier.specs.Told.{Told as Tables, VerifierStandsFor}
use Rattle.stream_text.specs.declared.stream_line.StreamLine.{StreamLine}
use Rattle.stream_text.specs.declared.stream_line.StreamLine.TheVariants.{Channel, Message, End, Anr}
use Rattle.stream_text.specs.StreamFile.{Event}
use Rattle.stream_judge.specs.Sections.{messages_at, messages_left, sections_at, sections_left, sent_after}
use Rattle.command_files.specs.Refused.{Refused, bad_stream_line}
use Rattle.command_answers.specs.Verify.{said}

-- the number of a line, if its message is not allowed after those of its section
abbrev pub break_at : List Told → ℕ → StreamLine → Option ℕ
break_at past n (Channel id) = None
break_at past n (Message m) = if is_well_formed (m ∷ past) then None else Some n
break_at past n (End id sent received finished) = None
break_at past n (Anr clock id seq) = None

-- what a judge knows: the tables of the open section, the line of the first break, and how many channels and messages there were
pub record Known : Type 0 where
  pub tables : Tables
  pub broken : Option ℕ
  pub channels : ℕ
  pub messages : ℕ

-- up to the first break the tables are those of the messages of the open section
abbrev pub Knows : List Told → Known → Type 0
Knows past j = j.broken ≡ None → VerifierStandsFor past j.tables

-- what is known after a line
pub record Judges (past : List Told) (n : ℕ) (line : StreamLine) (old new : Known) : Type 0 where
  pub knows : Knows (sent_after past line) new
  pub broken : new.broken ≡ option_or old.broken (break_at past n line)
  pub channels : new.channels ≡ old.channels + sections_at line
  pub messages : new.messages ≡ old.messages + messages_at line

-- the line of the first break of the remaining lines
abbrev pub breaks : List Told → List Event → Option ℕ
breaks past [] = None
breaks past (e ∷ es) = option_or (break_at past e.0 e.1) (breaks (sent_after past e.1) es)

-- what is said, with what is known and with the lines that are left
abbrev pub judged_on : Known → List Told → Result (List Event) ℕ → Result (List ℕ) Refused
judged_on j past (Err bad) = Err (bad_stream_line bad)
judged_on j past (Ok es) = said (option_or j.broken (breaks past es)) (j.channels + sections_left es) (j.messages + messages_left es)
