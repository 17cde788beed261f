-- Which message of a stream file may not come at its place.
use Rattle.std.specs.Prelude.{◌≡◌, ℕ, ◌+◌, Bool, true, false, if◌then◌else◌, List, [], ◌∷◌, ◌++◌, length, Option, Some, None}
use Rattle.std.specs.Option.{option_or}
use Rattle.input_types.specs.declared.message.Message.{Message}
use Rattle.input_types.specs.StreamRule.{is_well_formed}
use Rattle.gesture_verifier.specs.Told.{Told, VerifierStandsFor}
use Rattle.stream_text.specs.StreamFile.{Stream}

-- The line of the first message that may not come at its place, among messages from line `line` on, after those of
-- `past`, newest first.
abbrev pub break_from : ℕ → List Message → List Message → Option ℕ
break_from line past [] = None
break_from line past (m ∷ ms) = if is_well_formed (m ∷ past) then break_from (line + 1) (m ∷ past) ms else Some line

-- that of a file's streams: the first broken one counts
abbrev pub first_break : List Stream → Option ℕ
first_break [] = None
first_break (s ∷ ss) = option_or (break_from s.first_line [] s.messages) (first_break ss)

-- messages with the newest first, in front of those of `past`
abbrev pub past_from : List Message → List Message → List Message
past_from past [] = past
past_from past (m ∷ ms) = past_from (m ∷ past) ms

-- the messages of a section with the newest first
abbrev pub past_of : List Message → List Message
past_of ms = past_from [] ms

-- a judge has gone through these messages of a section, and each of them was allowed: wherever the section begins, it
-- has no break so far
pub record HasPassed (messages : List Message) (told : Told) : Type 0 where
  pub unbroken : (line : ℕ) → break_from line [] messages ≡ None
  pub stands : VerifierStandsFor (past_of messages) told

-- What is known after one more message: it passed, or it is a break, whatever follows it.
abbrev pub Passes : List Message → Message → Bool → Told → Type 0
Passes messages m true told = HasPassed (messages ++ m ∷ []) told
Passes messages m false told = (line : ℕ) (behind : List Message) → break_from line [] (messages ++ m ∷ behind) ≡ Some (line + length messages)
