-- Which lists of windows, front to back, are snapshots.
use Rattle.std.specs.Prelude.{ℕ, ◌≡◌, ◌≤◌, ◌&&◌, List, [], ◌∷◌, ◌++◌, length, Option, Some, None, if◌then◌else◌}
use Rattle.window_snapshot.specs.declared.window.Window.{Window}
use Rattle.window_snapshot.specs.Mask.{is_channel}
use Rattle.window_snapshot.specs.Named.{is_named}

-- behind these windows, the channel of the first of the others that stands before; walls have no channel
abbrev pub twice_after : List Window → List Window → Option ℕ
twice_after before [] = None
twice_after before (w ∷ ws) = if is_channel w.channel && is_named before w.channel then Some w.channel else twice_after (before ++ w ∷ []) ws

-- the channel of the first window whose channel stands before
abbrev pub first_twice : List Window → Option ℕ
first_twice windows = twice_after [] windows

-- at most 64 windows, no two of one channel
pub record IsSnapshot (windows : List Window) : Type 0 where
  pub few : length windows ≤ 64
  pub distinct : first_twice windows ≡ None
