-- By which windows of other owners a window is blocked.
use Rattle.std.specs.Prelude.{ℕ, ℤ, Bool, false, if◌then◌else◌, List, filter, Option, Some, None}
use Rattle.std.specs.List.{list_any}
use Rattle.window_snapshot.specs.declared.window.Window.{Window}
use Rattle.window_snapshot.specs.Named.{is_named, window_of}
use Rattle.window_snapshot.specs.Occlusion.{blocks, in_front_of}
use Rattle.window_snapshot.specs.Opaque.{is_blocking}
use Rattle.window_snapshot.specs.Walls.{is_wall}

-- no touch may go through the window
abbrev pub is_solid : Window → Bool
is_solid v = is_blocking v.occlusion

-- of windows that block another one, those that no touch may go through; if there are none, all of them, whose opacity decides
abbrev pub decisive : List Window → List Window
decisive vs = if list_any is_solid vs then filter is_solid vs else vs

-- the windows, of those in front of w, that block it at the point
abbrev pub blocking : (ℕ → Bool) → (front : List Window) → Window → ℤ → ℤ → List Window
blocking live front w x y = filter (blocks live front w x y) front

-- the channels of the decisive ones, if there is such a window
abbrev pub blockers_of : (ℕ → Bool) → (front : List Window) → ℤ → ℤ → Option Window → ℕ → Bool
blockers_of live front x y None c = false
blockers_of live front x y (Some w) c = is_named (decisive (blocking live front w x y)) c

-- a wall is one of the decisive ones, if there is such a window
abbrev pub walled_of : (ℕ → Bool) → (front : List Window) → ℤ → ℤ → Option Window → Bool
walled_of live front x y None = false
walled_of live front x y (Some w) = list_any is_wall (decisive (blocking live front w x y))

-- a wall is one of those that block the window of a channel at the point
abbrev pub is_walled : List Window → (ℕ → Bool) → ℤ → ℤ → ℕ → Bool
is_walled windows live x y w = walled_of live (in_front_of windows w) x y (window_of windows w)

-- the channels of those that block the window of a channel at the point
abbrev pub blockers : List Window → (ℕ → Bool) → ℤ → ℤ → ℕ → ℕ → Bool
blockers windows live x y w = blockers_of live (in_front_of windows w) x y (window_of windows w)
