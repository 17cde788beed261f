-- What is counted of the lines of a recording. Lines stand with the newest first.
use Rattle.std.specs.Prelude.{◌≡◌, ℕ, List, filter, reverse}
use Rattle.raw_events.specs.Line.{Known}
use Rattle.raw_events.specs.Pieces.{parts}
use Rattle.recording_counts.specs.Counted.{counted}
use Rattle.recording_counts.specs.Lines.{AreRead, begins_marked, is_blank_line, is_other_line, is_unknown_line, unknown_paths}
use Rattle.recording_counts.specs.Paths.{PathsStandFor}
use Rattle.recording_counts.specs.declared.lines.LineCounts.{LineCounts}

-- the lines by what they are, where none of them is refused
pub record SortsLines (devices : Known) (past : List (List ℕ)) (c : LineCounts) : Type 0 where
  pub blank_are : c.blank ≡ counted (filter (is_blank_line devices) past)
  pub other_are : c.other ≡ counted (filter (is_other_line devices) past)
  pub unknown_are : c.unknown ≡ counted (filter (is_unknown_line devices) past)
  pub paths_stand : PathsStandFor (unknown_paths devices past) c.paths

-- the counts are those of these lines
pub record LineCountsStandFor (devices : Known) (past : List (List ℕ)) (c : LineCounts) : Type 0 where
  pub lines_are : c.lines ≡ counted past
  pub marked_is : c.marked ≡ begins_marked past
  pub sorted : AreRead devices past → SortsLines devices past c

-- what contracts see of a tally of lines: the devices of the session, the bytes of the line that has begun, and the counts
pub record LinesState : Type 0 where
  pub devices : Known
  pub begun : List ℕ
  pub counts : LineCounts

-- these bytes were counted: the lines that a newline ended, and what stands behind the last newline has begun
pub record LineTallyStandsFor (devices : Known) (bytes : List ℕ) (t : LinesState) : Type 0 where
  pub devices_are : t.devices ≡ devices
  pub begun_is : t.begun ≡ (parts bytes).begun
  pub lines_stand : LineCountsStandFor devices (reverse (parts bytes).ended) t.counts
