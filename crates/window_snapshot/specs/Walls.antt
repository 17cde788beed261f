-- Walls: windows of nobody, which take touches that nobody is given.
use Rattle.std.specs.Prelude.{ℕ, ◌+◌, Bool, ◌||◌, ◌==◌}
use Rattle.window_snapshot.specs.declared.reach.Reach.{Reach}
use Rattle.window_snapshot.specs.declared.window.Window.{Window}
use Rattle.window_snapshot.specs.Mask.{mask_has}

-- the number that the walls of display y have in place of a channel; it is no channel's
abbrev pub wall_on : ℕ → ℕ
wall_on y = 65 + y

-- the window is a wall of its display
abbrev pub is_wall : Window → Bool
is_wall w = w.channel == wall_on w.display

-- a motion reaches the windows of these channels, and the walls of this display
abbrev pub reaches : Reach → ℕ → Bool
reaches r c = mask_has r.channels c || (c == wall_on r.display)
