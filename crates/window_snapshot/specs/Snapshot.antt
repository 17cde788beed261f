-- The snapshot of a list of windows, or why it is none.
use Rattle.std.specs.Prelude.{ℕ, nat_lt, List, length, Option, Some, None, Result, Ok, Err, if◌then◌else◌}
use Rattle.window_snapshot.specs.declared.snapshot.SnapshotError.{SnapshotError}
use Rattle.window_snapshot.specs.declared.snapshot.SnapshotError.TheVariants.{TooMany, Twice}
use Rattle.window_snapshot.specs.declared.window.Window.{Window}
use Rattle.window_snapshot.specs.WindowList.{first_twice}

-- the list itself, unless a channel stands in it twice
abbrev pub snapshot_unless : List Window → Option ℕ → Result (List Window) SnapshotError
snapshot_unless windows None = Ok windows
snapshot_unless windows (Some c) = Err (Twice c)

-- more than 64 windows are too many, and then the first channel that stands before is named
abbrev pub snapshot_of : List Window → Result (List Window) SnapshotError
snapshot_of windows = if nat_lt 64 (length windows) then Err TooMany else snapshot_unless windows (first_twice windows)
