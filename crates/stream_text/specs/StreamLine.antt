-- What a line of a stream file says. A line is given without its newline.
use Rattle.std.specs.Prelude.{codes, ◌≡◌, ◌<◌, ◌≤◌, true, ℕ, ◌-◌, ◌^◌, ◌==◌, ◌&&◌, nat_le, nat_lt, Bool, if◌then◌else◌, List, ◌++◌, length, Option, Some, None}
use Rattle.std.specs.List.{list_all}
use Rattle.std.specs.Fmt.{decimal}
use Rattle.input_types.specs.declared.motion.Motion.{Motion}
use Rattle.input_types.specs.declared.message.Body.{Body}
use Rattle.input_types.specs.declared.message.Body.TheVariants.{Motion as MotionBody}
use Rattle.input_types.specs.declared.message.Message.{Message as Told}
use Rattle.stream_text.specs.declared.stream_line.StreamLine.{StreamLine}
use Rattle.stream_text.specs.declared.stream_line.StreamLine.TheVariants.{Channel, Message, End, Anr}
use Rattle.stream_text.specs.Number.{◌>>=◌, after, number_at, whole}
use Rattle.stream_text.specs.MessageLine.{chosen_by, labeled_at, message_of, message_words, HasSpelling}
use Rattle.stream_text.specs.Spelling.{labeled}

-- the number of a channel, 1 to 64
unfoldable pub channel_at : List ℕ → Option (ℕ × List ℕ)
channel_at bs = do
  n ← number_at 64 bs
  if n.0 == 0 then None else Some n

-- a byte from `!` to `~`
abbrev pub is_name_byte : ℕ → Bool
is_name_byte b = nat_le 33 b && nat_le b 126

-- the name of a channel: 1 to 64 such bytes
abbrev pub is_name : List ℕ → Bool
is_name bs = nat_lt 0 (length bs) && (nat_le (length bs) 64 && list_all is_name_byte bs)

-- behind `channel `: the number of the channel whose section begins, and its name
unfoldable pub channel_of : List ℕ → Option StreamLine
channel_of bs = do
  id ← channel_at bs
  name ← after (codes " ") id.1
  if is_name name then Some (Channel id.0) else None

-- behind `end `: the channel whose section ends, and how many messages were sent, received and finished
unfoldable pub end_of : List ℕ → Option StreamLine
end_of bs = do
  id ← channel_at bs
  sent ← labeled_at (codes " sent ") (2 ^ 64 - 1) id.1
  received ← labeled_at (codes " received ") (2 ^ 64 - 1) sent.1
  finished ← labeled_at (codes " finished ") (2 ^ 64 - 1) received.1
  whole (End id.0 sent.0 received.0 finished.0, finished.1)

-- after `anr `: the clock, the channel that is reported, and its oldest unfinished message
unfoldable pub anr_of : List ℕ → Option StreamLine
anr_of bs = do
  clock ← number_at 1000000000000000000 bs
  to_id ← after (codes " ") clock.1
  id ← channel_at to_id
  seq ← labeled_at (codes " ") (2 ^ 64 - 1) id.1
  whole (Anr clock.0 id.0 seq.0, seq.1)

-- what a line says; None where it has none of the four forms
unfoldable pub line_of : List ℕ → Option StreamLine
line_of bs =
    chosen_by (after (codes "channel ") bs) channel_of
    (chosen_by (after (codes "end ") bs) end_of
    (chosen_by (after (codes "anr ") bs) anr_of (message_of bs >>= λ m. Some (Message m))))

-- the line of a message, where there is one
abbrev pub line_that_sends : Option Told → Option StreamLine
line_that_sends told = told >>= λ m. Some (Message m)

-- the line of a message of this number and moment, where it says something
abbrev pub line_that_says : ℕ → ℕ → Option Body → Option StreamLine
line_that_says seq moment says = line_that_sends (says >>= λ body. Some (record { seq = seq; moment = moment; body = body }))

-- the line of a motion of this number and moment, where there is one
abbrev pub line_that_moves : ℕ → ℕ → Option Motion → Option StreamLine
line_that_moves seq moment motion = line_that_says seq moment (motion >>= λ m. Some (MotionBody m))

-- lines without their newline: the first and the last one of a section, and an ANR
unfoldable pub channel_words : ℕ → List ℕ → List ℕ
channel_words id name = codes "channel " ++ decimal id ++ codes " " ++ name

-- the last line of a section, without its newline
unfoldable pub end_words : ℕ → ℕ → ℕ → ℕ → List ℕ
end_words id sent received finished =
    labeled (codes "end ") id ++ labeled (codes " sent ") sent ++ labeled (codes " received ") received ++ labeled (codes " finished ") finished

-- the line of an ANR, without its newline
unfoldable pub anr_words : ℕ → ℕ → ℕ → List ℕ
anr_words clock id seq = labeled (codes "anr ") clock ++ labeled (codes " ") id ++ labeled (codes " ") seq

-- the number of a channel
abbrev pub IsId : ℕ → Type 0
IsId id = (1 ≤ id) × (id ≤ 64)

-- the bytes spell the line, whose numbers are within their types; the first line of a section with some name
abbrev pub SpellsLine : List ℕ → StreamLine → Type 0
SpellsLine bs (Channel id) = (name : List ℕ) × (bs ≡ channel_words id name) × IsId id × (is_name name ≡ true)
SpellsLine bs (Message m) = (bs ≡ message_words m) × HasSpelling m
SpellsLine bs (End id sent received finished) =
    (bs ≡ end_words id sent received finished) × IsId id × (sent < 2 ^ 64) × (received < 2 ^ 64) × (finished < 2 ^ 64)
SpellsLine bs (Anr clock id seq) = (bs ≡ anr_words clock id seq) × (clock ≤ 1000000000000000000) × IsId id × (seq < 2 ^ 64)

-- what a line can say: a section is of one of the channels 1 to 64, and a message has a spelling
abbrev pub CanSay : StreamLine → Type 0
CanSay (Channel id) = IsId id
CanSay (Message m) = HasSpelling m
CanSay (End id sent received finished) = Unit {0}
CanSay (Anr clock id seq) = Unit {0}
