-- The commands, with what their options say. Files are given by their names, as bytes.
use Rattle.std.specs.Prelude.{◌≡◌, ◌≤◌, ◌<◌, ◌^◌, ℕ, Bool, List, Option, None, Some, true, ⊤}
use Rattle.help_text.specs.declared.page.Page.{Page}
use Rattle.command_words.specs.Value.{is_path}

-- the files that a run reads
pub record Recorded : Type 0 where
  pub session : List ℕ
  pub events : List ℕ

-- The commands. `replay`, `race`, `inspect` and `why` have the files of a run, `check` has an order file beside them,
-- `verify`, `batch`, `emit` and `judge` have a stream file, `work` has a seed and how many packets, `batch` the
-- length of a frame, `hover` the path of a mouse, `emit` a channel and a device. `compare` has the expected and the
-- actual stream file, how many microseconds and pixels they may differ by, a channel of each file if it names one, and
-- whether each move is a point. `show` prints a page of help.
pub data Command : Type 0 where
  replay : Recorded → Command
  race : Recorded → Command
  check : Recorded → List ℕ → Command
  verify : List ℕ → Command
  work : ℕ → ℕ → Command
  batch : List ℕ → ℕ → Command
  hover : Recorded → List ℕ → Command
  emit : List ℕ → ℕ → ℕ → Command
  judge : List ℕ → Command
  compare : List ℕ → List ℕ → ℕ → ℕ → Option ℕ → Option ℕ → Bool → Command
  inspect : Recorded → Command
  why : Recorded → Command
  show : Page → Command

-- a channel that an option names is one
abbrev pub IsChannelIfNamed : Option ℕ → Type 0
IsChannelIfNamed None = ⊤
IsChannelIfNamed (Some channel) = (1 ≤ channel) × (channel ≤ 64)

-- the numbers of a command are in their ranges, and the path of its mouse is one
abbrev pub InRanges : Command → Type 0
InRanges (work seed packets) = (seed < 2 ^ 32) × (1 ≤ packets) × (packets ≤ 200000)
InRanges (batch stream frame) = (1 ≤ frame) × (frame ≤ 1000000000)
InRanges (hover recorded mouse) = is_path mouse ≡ true
InRanges (emit stream channel device) = (1 ≤ channel) × (channel ≤ 64) × (1 ≤ device) × (device ≤ 8)
InRanges (compare want got us pixels want_channel got_channel each_move) =
    (us ≤ 1000000000) × (pixels ≤ 16384) × IsChannelIfNamed want_channel × IsChannelIfNamed got_channel
InRanges _ = ⊤
