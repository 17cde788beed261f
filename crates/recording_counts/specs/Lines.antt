-- What each line of a recording is, of which none is refused. Lines stand with the newest first.
use Rattle.std.specs.Prelude.{ℕ, ◌==◌, Bool, true, false, not, ◌&&◌, codes, List, [], ◌∷◌, map, filter, Option, None, unwrap_or, Result, Ok, Err}
use Rattle.text_lines.specs.Blanks.{skip_blanks}
use Rattle.raw_events.specs.declared.event.RawEvent.{RawEvent}
use Rattle.raw_events.specs.declared.event.LineError.{LineError}
use Rattle.raw_events.specs.Text.{◌>>=◌, after_blanks}
use Rattle.raw_events.specs.Line.{Known, moment_at, path_at, without_return}
use Rattle.raw_events.specs.Recording.{events_from}

-- the line without a carriage return at its end and without the blanks in front
abbrev pub text_of : List ℕ → List ℕ
text_of line = skip_blanks (without_return line)

-- what a line alone gives: an event, nothing, or its refusal
abbrev pub given_by : Known → List ℕ → Result (List RawEvent) LineError
given_by devices line = events_from devices 1 (line ∷ [])

-- a line is passed over
abbrev pub passes : Result (List RawEvent) LineError → Bool
passes (Ok []) = true
passes _ = false

-- the bytes begin with the byte order mark of UTF-8
abbrev pub is_marked : List ℕ → Bool
is_marked (a ∷ b ∷ c ∷ bs) = a == 239 && (b == 187 && c == 191)
is_marked _ = false

-- the first line does, and so the recording
abbrev pub begins_marked : List (List ℕ) → Bool
begins_marked [] = false
begins_marked (line ∷ []) = is_marked line
begins_marked (line ∷ before ∷ past) = begins_marked (before ∷ past)

-- a line gives an event
abbrev pub gives : Result (List RawEvent) LineError → Bool
gives (Ok (event ∷ events)) = true
gives _ = false

-- a line is not refused
abbrev pub IsRead : Result (List RawEvent) LineError → Type 0
IsRead (Err error) = ⊥
IsRead (Ok events) = Unit {0}

-- none of these lines is
abbrev pub AreRead : Known → List (List ℕ) → Type 0
AreRead devices [] = Unit {0}
AreRead devices (line ∷ past) = IsRead (given_by devices line) × AreRead devices past

-- there is nothing
abbrev pub is_nothing : List ℕ → Bool
is_nothing [] = true
is_nothing _ = false

-- it begins as the line of an event does, with `[`
abbrev pub begins_event : List ℕ → Bool
begins_event [] = false
begins_event (b ∷ bs) = b == 91

-- it begins in another way
abbrev pub begins_other : List ℕ → Bool
begins_other [] = false
begins_other (b ∷ bs) = not (b == 91)

-- a line of nothing but blanks
abbrev pub is_blank_line : Known → List ℕ → Bool
is_blank_line devices line = passes (given_by devices line) && is_nothing (text_of line)

-- a line of another form, as `add device 1: /dev/input/event2`
abbrev pub is_other_line : Known → List ℕ → Bool
is_other_line devices line = passes (given_by devices line) && begins_other (text_of line)

-- the line of an event of a device that is not in the session
abbrev pub is_unknown_line : Known → List ℕ → Bool
is_unknown_line devices line = passes (given_by devices line) && begins_event (text_of line)

-- the line of an event of a device of the session
abbrev pub is_event_line : Known → List ℕ → Bool
is_event_line devices line = gives (given_by devices line)

-- the path that the line of an event names, behind its first bracket
abbrev pub path_in : List ℕ → Option (List ℕ)
path_in bs = do
  moment ← moment_at bs
  rest ← after_blanks moment.1
  path ← path_at rest
  path.0

-- the path that a text names
abbrev pub path_of : List ℕ → Option (List ℕ)
path_of [] = None
path_of (b ∷ bs) = path_in bs

-- the path of a line, and `-` where it names none
abbrev pub path_named : List ℕ → List ℕ
path_named line = unwrap_or (path_of (text_of line)) (codes "-")

-- the paths of the lines of devices that are not in the session
abbrev pub unknown_paths : Known → List (List ℕ) → List (List ℕ)
unknown_paths devices lines = map path_named (filter (is_unknown_line devices) lines)
