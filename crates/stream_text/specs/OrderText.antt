-- What stands in an order's text.
use Rattle.std.specs.Prelude.{codes, ℕ, ◌+◌, ◌-◌, ◌^◌, ◌<◌, ◌==◌, ◌≡◌, ◌&&◌, if◌then◌else◌, List, [], ◌∷◌, ◌++◌, length, Option, Some, None, is_some, Result, Ok, Err}
use Rattle.std.specs.List.{All}
use Rattle.stream_text.specs.declared.order_error.OrderError.{OrderError}
use Rattle.stream_text.specs.declared.order_error.OrderError.TheVariants as errors
use Rattle.stream_text.specs.declared.order_line.OrderLine.{OrderLine}
use Rattle.stream_text.specs.Number.{◌>>=◌, after}
use Rattle.stream_text.specs.Order.{IsLine, number_alone, order_line_of}
use Rattle.text_lines.specs.Lines.{Line, lines_of}

-- how many lines follow a first line, given without its newline
unfoldable pub head_of : List ℕ → Option ℕ
head_of bs = do
  number ← after (codes "order ") bs
  number_alone (2 ^ 64 - 1) number

-- line k, and then the lines behind it, or the number of the first that is bad
abbrev pub with_line : ℕ → Option OrderLine → Result (List OrderLine) ℕ → Result (List OrderLine) ℕ
with_line k None behind = Err k
with_line k (Some line) (Ok lines) = Ok (line ∷ lines)
with_line k (Some line) (Err bad) = Err bad

-- n lines from line k on, or the number of the first that is bad or missing
abbrev pub lines_from : ℕ → ℕ → List Line → Result (List OrderLine) ℕ
lines_from k n [] = if n == 0 then Ok [] else Err k
lines_from k n (line ∷ lines) = if n == 0 then Ok [] else with_line k (order_line_of line.0) (lines_from (k + 1) (n - 1) lines)

-- as many lines from the second on as the first one says
abbrev pub behind_head : Option ℕ → List Line → Result (List OrderLine) ℕ
behind_head None lines = Err 1
behind_head (Some n) lines = lines_from 2 n lines

-- the order that these lines begin with, or the number of the first line that is bad or missing
abbrev pub order_in : List Line → Result (List OrderLine) ℕ
order_in [] = Err 1
order_in (line ∷ lines) = behind_head (head_of line.0) lines

-- the order in front of a text, or the number of the first line that is bad or missing
unfoldable pub order_of : List ℕ → Result (List OrderLine) ℕ
order_of text = order_in (lines_of text)

-- lines that an order may have, and as many as a number of 64 bits counts
abbrev pub IsOrder : List OrderLine → Type 0
IsOrder order = All IsLine order × (length order < 2 ^ 64)

-- a text begins so
abbrev pub BeginsWith : List ℕ → List ℕ → Type 0
BeginsWith text front = (rest : List ℕ) × (text ≡ front ++ rest)

-- What a call answered, seen by view, is what was read, unless memory ran out.
abbrev pub Answers : {X Y : Type 0} → (X → Y) → Result X OrderError → Result Y ℕ → Type 0
Answers view (Ok x) read = read ≡ Ok (view x)
Answers view (Err errors.Memory) read = Unit {0}
Answers view (Err (errors.BadLine line)) read = read ≡ Err line

-- n lines of an order from line k on, each ended by a newline, are passed over: the number of the line behind them and the lines from there on, or the
-- number of the first that is bad or missing
abbrev pub lines_passed : ℕ → ℕ → List Line → Result (ℕ × List Line) ℕ
lines_passed k n [] = if n == 0 then Ok (k, []) else Err k
lines_passed k n (line ∷ lines) =
    if n == 0 then Ok (k, line ∷ lines)
    else if line.1 && is_some (order_line_of line.0) then lines_passed (k + 1) (n - 1) lines
    else Err k

-- as many lines from the second on as a first line says, where it is that of an order
abbrev pub passed_behind : Option ℕ → Line → List Line → Result (ℕ × List Line) ℕ
passed_behind None line lines = Ok (1, line ∷ lines)
passed_behind (Some n) line lines = lines_passed 2 n lines

-- an order in front of other lines is passed over; where no order begins, nothing is
abbrev pub order_passed : List Line → Result (ℕ × List Line) ℕ
order_passed [] = Ok (1, [])
order_passed (line ∷ lines) = passed_behind (if line.1 then head_of line.0 else None) line lines

-- What a call gave, seen by view, is what was passed over.
abbrev pub Passes : {X Y : Type 0} → (X → Y) → Result X ℕ → Result Y ℕ → Type 0
Passes view (Ok x) passed = passed ≡ Ok (view x)
Passes view (Err bad) passed = passed ≡ Err bad
