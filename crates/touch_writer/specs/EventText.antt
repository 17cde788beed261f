-- How an event is written, as `getevent -t` prints it.
use Rattle.std.specs.Prelude.{ℕ, zero, suc, ◌+◌, ◌-◌, ◌/◌, ◌%◌, nat_lt, if◌then◌else◌, List, [], ◌∷◌, ◌++◌, codes, length, replicate}
use Rattle.std.specs.Fmt.{decimal}
use Rattle.std.specs.Int.{cast_unsigned, w32}
use Rattle.raw_events.specs.declared.event.RawEvent.{RawEvent}

-- a digit: 0 to 9, and a to f for 10 to 15
abbrev pub digit : ℕ → ℕ
digit d = if nat_lt d 10 then 48 + d else 87 + d

-- the last `n` digits of a number in a base
unfoldable pub digits : ℕ → ℕ → ℕ → List ℕ
digits base zero x = []
digits base (suc n) x = digits base n (x / base) ++ digit (x % base) ∷ []

-- bytes, padded with blanks in front to eight
unfoldable pub in_eight : List ℕ → List ℕ
in_eight bs = replicate (8 - length bs) 32 ++ bs

-- a moment in seconds, with six digits of microseconds, in brackets
unfoldable pub stamp : ℕ → List ℕ
stamp moment = codes "[" ++ in_eight (decimal (moment / 1000000)) ++ codes "." ++ digits 10 6 (moment % 1000000) ++ codes "] "

-- type, code and value in hexadecimal, the value in two's complement
unfoldable pub fields : RawEvent → List ℕ
fields e = digits 16 4 e.kind ++ codes " " ++ digits 16 4 e.code ++ codes " " ++ digits 16 8 (cast_unsigned w32 e.value)

-- the line of an event of the device at this path
unfoldable pub event_line : List ℕ → RawEvent → List ℕ
event_line path e = stamp e.moment ++ path ++ codes ": " ++ fields e ++ codes "\n"
