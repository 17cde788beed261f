-- What a reader of recordings gets from the lines of events.
use Rattle.std.specs.Prelude.{◌≡◌, ℕ, ◌<◌, ◌≤◌, ◌==◌, Bool, true, not, ◌||◌, List, [], ◌∷◌, ◌++◌, length, Some, Ok}
use Rattle.std.specs.List.{list_all}
use Rattle.std.specs.Str.{byte}
use Rattle.std.specs.Int.{w32}
use Rattle.std.specs.Int.RustNames.{FitsSigned}
use Rattle.raw_events.specs.declared.event.RawEvent.{RawEvent}
use Rattle.text_lines.specs.Blanks.{is_blank}
use Rattle.raw_events.specs.Line.{Known, device_at}
use Rattle.raw_events.specs.Recording.{recorded}
use Rattle.touch_writer.specs.EventText.{event_line}

-- the lines of events of one device
abbrev pub lines : List ℕ → List RawEvent → List ℕ
lines path [] = []
lines path (e ∷ es) = event_line path e ++ lines path es

-- a byte that ends neither a word nor a line
abbrev pub is_inside : ℕ → Bool
is_inside b = not (is_blank b || b == 10)

-- A path begins with '/', has no blank and no newline, and is no longer than a line may be.
pub record IsPath (path name : List ℕ) : Type 0 where
  pub begins : path ≡ byte "/" ∷ name
  pub inside : list_all is_inside path ≡ true
  pub short : length path ≤ 4000

-- an event of the device at this path, of which each field is in its range
pub record IsEventOf (devices : Known) (path : List ℕ) (e : RawEvent) : Type 0 where
  pub device : device_at devices path ≡ Some e.device
  pub moment : e.moment < 1000000000000000000
  pub kind : e.kind < 65536
  pub code : e.code < 65536
  pub value : FitsSigned w32 e.value

-- each of these events is one of this path, with numbers in their ranges
abbrev pub AreEventsOf : Known → List ℕ → List RawEvent → Type 0
AreEventsOf devices path [] = Unit {0}
AreEventsOf devices path (e ∷ es) = IsEventOf devices path e × AreEventsOf devices path es

-- The lines of events are read as these events.
abbrev pub ReadingLaw : Type 0
ReadingLaw = (devices : Known) (path name : List ℕ) (events : List RawEvent) → IsPath path name → AreEventsOf devices path events
    → recorded devices (lines path events) ≡ Ok events
