-- What one line of a recording says.
use Rattle.std.specs.Prelude.{ℕ, ◌+◌, ◌-◌, ◌*◌, ◌==◌, nat_lt, ◌||◌, if◌then◌else◌, List, [], ◌∷◌, length, take, drop, Option, Some, None, is_some, map, String, string_bytes}
use Rattle.std.specs.Char.{is_digit}
use Rattle.std.specs.List.{prefix_len}
use Rattle.std.specs.Str.{byte, bytes_eq}
use Rattle.std.specs.Int.{cast_signed, w32}
use Rattle.std.specs.declared.alloc.Global.{Global}
use Rattle.input_types.specs.declared.number.DeviceId.{DeviceId}
use Rattle.raw_events.specs.declared.line.Fields.{Fields}
use Rattle.raw_events.specs.declared.line.Cause.TheVariants.{BadLine, NoMoment, TooLong}
use Rattle.raw_events.specs.declared.line.Line.{Line}
use Rattle.raw_events.specs.declared.line.Line.TheVariants.{PassedOver, Event, Refused}
use Rattle.raw_events.specs.Text.{◌>>=◌, after_blanks, after_byte, number_at}
use Rattle.text_lines.specs.Blanks.{skip_blanks, ends_in, word_len}

-- 1 to 12 decimal digits, as many as there are
unfoldable pub seconds_at : List ℕ → Option (ℕ × List ℕ)
seconds_at bs =
    let len = prefix_len (λ b. is_digit b 10) bs in
    if len == 0 || nat_lt 12 len then None else number_at 10 len bs

-- behind the first bracket: the moment in microseconds, and the second bracket
unfoldable pub moment_at : List ℕ → Option (ℕ × List ℕ)
moment_at bs = do
  seconds ← seconds_at (skip_blanks bs)
  point ← after_byte (byte ".") seconds.1
  fraction ← number_at 10 6 point
  rest ← after_byte (byte "]") (skip_blanks fraction.1)
  Some (seconds.0 * 1000000 + fraction.0, rest)

-- a path and the blanks behind it, where a path stands there: a word that begins with '/' and ends with ':', which is not part of the path
unfoldable pub path_at : List ℕ → Option (Option (List ℕ) × List ℕ)
path_at [] = Some (None, [])
path_at (b ∷ bs) =
    if b == byte "/"
    then
    (let len = word_len (b ∷ bs) in
    let word = take len (b ∷ bs) in
    if ends_in (byte ":") word
    then (after_blanks (drop len (b ∷ bs)) >>= λ rest. Some (Some (take (len - 1) word), rest))
    else None)
    else Some (None, b ∷ bs)

-- type, code and value: four, four and eight hexadecimal digits with blanks between them and perhaps behind them
unfoldable pub fields_of : List ℕ → Option Fields
fields_of bs = do
  kind ← number_at 16 4 bs
  to_code ← after_blanks kind.1
  code ← number_at 16 4 to_code
  to_value ← after_blanks code.1
  value ← number_at 16 8 to_value
  if length (skip_blanks value.1) == 0 then Some (record { kind = kind.0; code = code.0; value = cast_signed w32 value.0 }) else None

-- the devices of a session, each with its path, in the order of the session
abbrev pub Known : Type 0
Known = List (List ℕ × DeviceId)

-- the devices as the program has them
abbrev pub known : List (String Global × DeviceId) → Known
known devices = map (λ d. (string_bytes d.0, d.1)) devices

-- the device at this path; where two have it, the first one
abbrev pub device_at : Known → List ℕ → Option DeviceId
device_at [] path = None
device_at (entry ∷ entries) path = if bytes_eq entry.0 path then Some entry.1 else device_at entries path

-- the device that sent a line: the one at its path, and the first of the session where the line names no path
abbrev pub sender : Known → Option (List ℕ) → Option DeviceId
sender [] None = None
sender (entry ∷ entries) None = Some entry.1
sender devices (Some path) = device_at devices path

-- an event of a device of the session; lines of others are passed over
abbrev pub sent : Option DeviceId → ℕ → Fields → Line
sent None moment fields = PassedOver
sent (Some device) moment fields = Event (record { device = device; moment = moment; kind = fields.kind; code = fields.code; value = fields.value })

-- a line of the form `[ SECONDS.FRACTION ] PATH: TYPE CODE VALUE`, behind its first byte
unfoldable pub formed : Known → List ℕ → Option Line
formed devices bs = do
  moment ← moment_at bs
  rest ← after_blanks moment.1
  path ← path_at rest
  fields ← fields_of path.1
  Some (sent (sender devices path.0) moment.0 fields)

-- a line that has no reading is bad
abbrev pub or_bad : Option Line → Line
or_bad None = Refused BadLine
or_bad (Some line) = line

-- the rules for a line that is short enough and has no blanks in front, the first that fits
unfoldable pub judged_text : Known → List ℕ → Line
judged_text devices [] = PassedOver
judged_text devices (b ∷ bs) =
    if b == byte "[" then or_bad (formed devices bs)
    else if b == byte "/" then Refused NoMoment
    else if is_some (fields_of (b ∷ bs)) then Refused NoMoment
    else PassedOver

-- the line without one carriage return at its end
abbrev pub without_return : List ℕ → List ℕ
without_return line = if ends_in 13 line then take (length line - 1) line else line

-- what a line says: an event, nothing, or why it is refused
unfoldable pub judged : Known → List ℕ → Line
judged devices line =
    if nat_lt 4096 (length line) then Refused TooLong else judged_text devices (skip_blanks (without_return line))
