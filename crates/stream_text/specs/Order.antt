-- Orders: how one is spelled, and what one line says.
use Rattle.std.specs.Prelude.{codes, ℕ, ◌-◌, ◌^◌, ◌<◌, ◌≤◌, ◌==◌, if◌then◌else◌, List, [], ◌∷◌, ◌++◌, length, Option, Some, None}
use Rattle.std.specs.Str.{byte}
use Rattle.stream_text.specs.declared.order_line.OrderLine.{OrderLine}
use Rattle.stream_text.specs.declared.order_line.OrderLine.TheVariants.{Reader, Script, Pump, Tick, Receive, Finish}
use Rattle.stream_text.specs.Number.{◌>>=◌, after, number_at, whole}
use Rattle.stream_text.specs.Spelling.{labeled}

-- a line without its newline
abbrev pub line_spelling : OrderLine → List ℕ
line_spelling Reader = codes "r"
line_spelling (Script lane) = labeled (codes "s ") lane
line_spelling Pump = codes "p"
line_spelling Tick = codes "k"
line_spelling (Receive channel) = labeled (codes "g ") channel
line_spelling (Finish channel seq) = labeled (codes "f ") channel ++ labeled (codes " ") seq

-- the lines of an order, each with its newline
abbrev pub lines_spelling : List OrderLine → List ℕ
lines_spelling [] = []
lines_spelling (line ∷ lines) = line_spelling line ++ codes "\n" ++ lines_spelling lines

-- the first line, without its newline: how many lines follow
unfoldable pub head_spelling : ℕ → List ℕ
head_spelling n = labeled (codes "order ") n

-- an order: how many lines it has, and the lines
unfoldable pub order_spelling : List OrderLine → List ℕ
order_spelling lines = head_spelling (length lines) ++ codes "\n" ++ lines_spelling lines

-- script lanes have the numbers 1 to 8
abbrev pub HasLane : OrderLine → Type 0
HasLane (Script lane) = (1 ≤ lane) × (lane ≤ 8)
HasLane _ = Unit {0}

-- channels have numbers of 32 bits, and messages of 64
abbrev pub HasNumbers : OrderLine → Type 0
HasNumbers (Receive channel) = channel < 2 ^ 32
HasNumbers (Finish channel seq) = (channel < 2 ^ 32) × (seq < 2 ^ 64)
HasNumbers _ = Unit {0}

-- a line that an order may have
abbrev pub IsLine : OrderLine → Type 0
IsLine line = HasLane line × HasNumbers line

-- a line of one letter
abbrev pub letter_line : ℕ → Option OrderLine
letter_line b = if b == byte "r" then Some Reader else if b == byte "p" then Some Pump else if b == byte "k" then Some Tick else None

-- a number of at most `max` with nothing behind it
unfoldable pub number_alone : ℕ → List ℕ → Option ℕ
number_alone max bs = number_at max bs >>= whole

-- behind `s `: a lane
unfoldable pub script_line : List ℕ → Option OrderLine
script_line bs = do
  lane ← number_alone 8 bs
  if lane == 0 then None else Some (Script lane)

-- behind `g `: a channel
unfoldable pub receive_line : List ℕ → Option OrderLine
receive_line bs = do
  channel ← number_alone (2 ^ 32 - 1) bs
  Some (Receive channel)

-- behind `f `: a channel and the number of a message
unfoldable pub finish_line : List ℕ → Option OrderLine
finish_line bs = do
  channel ← number_at (2 ^ 32 - 1) bs
  rest ← after (codes " ") channel.1
  seq ← number_alone (2 ^ 64 - 1) rest
  Some (Finish channel.0 seq)

-- a line whose letter has numbers behind it
abbrev pub numbers_line : ℕ → List ℕ → Option OrderLine
numbers_line b bs = if b == byte "s" then script_line bs else if b == byte "g" then receive_line bs else if b == byte "f" then finish_line bs else None

-- what a line says, given without its newline; None where it has not the form of an order's line
abbrev pub order_line_of : List ℕ → Option OrderLine
order_line_of [] = None
order_line_of (b ∷ []) = letter_line b
order_line_of (b ∷ c ∷ bs) = if c == byte " " then numbers_line b bs else None
