-- The front of a line, from its first bracket up to its type, and what it says whatever stands behind it.
use Rattle.std.specs.Prelude.{ℕ, ◌+◌, ◌*◌, ◌^◌, ◌<◌, ◌≡◌, Bool, true, not, List, [], ◌∷◌, ◌++◌, length, Option, Some}
use Rattle.std.specs.Str.{byte}
use Rattle.input_types.specs.declared.number.DeviceId.{DeviceId}
use Rattle.raw_events.specs.declared.line.Fields.{Fields}
use Rattle.raw_events.specs.Text.{◌>>=◌, after_blanks, after_byte, number_at}
use Rattle.text_lines.specs.Blanks.{is_blank, skip_blanks}
use Rattle.raw_events.specs.Line.{Known, moment_at, path_at, fields_of, sender, sent, judged_text}
use Rattle.raw_events.specs.Recording.{line_len}

-- no blank stands in front
abbrev pub plain : List ℕ → Bool
plain [] = true
plain (b ∷ bs) = not (is_blank b)

-- behind the point of a moment with so many seconds: the moment in microseconds, and what stands behind the second bracket
abbrev pub fraction_at : ℕ → List ℕ → Option (ℕ × List ℕ)
fraction_at seconds bs = do
  fraction ← number_at 10 6 bs
  rest ← after_byte (byte "]") (skip_blanks fraction.1)
  Some (seconds * 1000000 + fraction.0, rest)

-- bytes from the first bracket to the point, with so many seconds between them and no newline
pub record SecondsSay (front : List ℕ) (seconds : ℕ) : Type 0 where
  pub inside : List ℕ
  pub bracket : front ≡ byte "[" ∷ inside
  pub says : (rest : List ℕ) → moment_at (inside ++ rest) ≡ fraction_at seconds rest
  pub few : seconds < 10 ^ 12
  pub unended : line_len front ≡ length front

-- bytes from the point to the second bracket, with so many microseconds between them
abbrev pub MicrosSay : List ℕ → ℕ → Type 0
MicrosSay digits micros = (seconds : ℕ) (rest : List ℕ) → fraction_at seconds (digits ++ rest) ≡ Some (seconds * 1000000 + micros, rest)

-- bytes behind the second bracket up to the type, with the path of this device between blanks and no newline
pub record PathSays (devices : Known) (part : List ℕ) (device : Option DeviceId) : Type 0 where
  pub path : Option (List ℕ)
  pub inside : List ℕ
  pub blanks : (rest : List ℕ) → after_blanks (part ++ rest) ≡ Some (inside ++ rest)
  pub says : (rest : List ℕ) → plain rest ≡ true → path_at (inside ++ rest) ≡ Some (path, rest)
  pub sent : sender devices path ≡ device
  pub unended : line_len part ≡ length part

-- bytes from the first bracket up to the type: what a line of this device says at this moment that begins with them, whatever its fields are
pub record HeadSays (devices : Known) (head : List ℕ) (device : Option DeviceId) (moment : ℕ) : Type 0 where
  pub inside : List ℕ
  pub bracket : head ≡ byte "[" ∷ inside
  pub says : (end : List ℕ) (fields : Fields) → plain end ≡ true → fields_of end ≡ Some fields → judged_text devices (head ++ end) ≡ sent device moment fields
  pub unended : line_len head ≡ length head
  pub short : length head < 4078

-- both parts of a front, between which the microseconds stand, and all of it
abbrev pub FrontSays : Known → List ℕ → ℕ → List ℕ → Option DeviceId → List ℕ → ℕ → Type 0
FrontSays devices to_point seconds part device head moment = SecondsSay to_point seconds × PathSays devices part device × HeadSays devices head device moment
