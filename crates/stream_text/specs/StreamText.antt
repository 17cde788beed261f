-- A stream file as it is written: the text of an order, sections of channels, and ANRs.
use Rattle.std.specs.Prelude.{◌≡◌, ℕ, ◌+◌, ◌^◌, ◌<◌, ◌≤◌, true, List, [], ◌∷◌, ◌++◌, length, Option, Some, None}
use Rattle.input_types.specs.declared.message.Message.{Message}
use Rattle.stream_text.specs.declared.order_line.OrderLine.{OrderLine}
use Rattle.stream_text.specs.Order.{order_spelling}
use Rattle.stream_text.specs.OrderText.{IsOrder}
use Rattle.stream_text.specs.Spelling.{channel_line, end_line, message_lines, anr_line}
use Rattle.stream_text.specs.MessageLine.{HasSpelling}
use Rattle.stream_text.specs.StreamLine.{IsId, is_name}
use Rattle.stream_text.specs.StreamFile.{Stream}

-- the section of a channel: as many messages as were sent, and how many were received and finished
pub record Section : Type 0 where
  pub id : ℕ
  pub name : List ℕ
  pub messages : List Message
  pub received : ℕ
  pub finished : ℕ

-- an ANR: the clock, the channel and its oldest unfinished message
pub record Anr : Type 0 where
  pub clock : ℕ
  pub id : ℕ
  pub seq : ℕ

-- the text of a section: its first line, its messages, its last line
unfoldable pub section_text : Section → List ℕ
section_text s = channel_line s.id s.name ++ message_lines s.messages ++ end_line s.id (length s.messages) s.received s.finished

-- the texts of sections, one after the other
abbrev pub sections_text : List Section → List ℕ
sections_text [] = []
sections_text (s ∷ ss) = section_text s ++ sections_text ss

-- the lines of ANRs, one after the other
abbrev pub anrs_text : List Anr → List ℕ
anrs_text [] = []
anrs_text (n ∷ ns) = anr_line n.clock n.id n.seq ++ anrs_text ns

-- the text of an order that may be absent
abbrev pub front_text : Option (List OrderLine) → List ℕ
front_text None = []
front_text (Some order) = order_spelling order

-- the text of a stream file: an order that may be absent, the sections, the ANRs
unfoldable pub stream_text : Option (List OrderLine) → List Section → List Anr → List ℕ
stream_text order sections anrs = front_text order ++ (sections_text sections ++ anrs_text anrs)

-- messages that have a spelling, with the numbers k, k + 1 and so on
abbrev pub AreNumbered : ℕ → List Message → Type 0
AreNumbered k [] = Unit {0}
AreNumbered k (m ∷ ms) = (m.seq ≡ k) × HasSpelling m × AreNumbered (k + 1) ms

-- a section that has a text: its numbers are in their ranges, and its messages are numbered from 1
pub record IsSection (s : Section) : Type 0 where
  pub id : IsId s.id
  pub name : is_name s.name ≡ true
  pub messages : AreNumbered 1 s.messages
  pub sent : length s.messages < 2 ^ 64
  pub received : s.received < 2 ^ 64
  pub finished : s.finished < 2 ^ 64

-- each of these sections has a text
abbrev pub AreSections : List Section → Type 0
AreSections [] = Unit {0}
AreSections (s ∷ ss) = IsSection s × AreSections ss

-- the numbers of each of these ANRs are in their ranges
abbrev pub AreAnrs : List Anr → Type 0
AreAnrs [] = Unit {0}
AreAnrs (n ∷ ns) = (n.clock ≤ 1000000000000000000) × IsId n.id × (n.seq < 2 ^ 64) × AreAnrs ns

-- no order, or one that has a text
abbrev pub MayBeOrder : Option (List OrderLine) → Type 0
MayBeOrder None = Unit {0}
MayBeOrder (Some order) = IsOrder order

-- the streams of sections of which the first begins in line n
abbrev pub streams_from : ℕ → List Section → List Stream
streams_from n [] = []
streams_from n (s ∷ ss) = record { id = s.id; first_line = n + 1; messages = s.messages } ∷ streams_from (n + 1 + length s.messages + 1) ss

-- the number of the line behind an order
abbrev pub line_behind : Option (List OrderLine) → ℕ
line_behind None = 1
line_behind (Some order) = length order + 2

-- the bytes are the text of a stream file
abbrev pub IsStreamFile : List ℕ → Type 0
IsStreamFile bytes =
    (order : Option (List OrderLine)) × (sections : List Section) × (anrs : List Anr)
    × (MayBeOrder order × AreSections sections × AreAnrs anrs × (bytes ≡ stream_text order sections anrs))
