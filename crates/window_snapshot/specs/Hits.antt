-- Which windows of a snapshot, front to back, a point at (x, y) concerns. `live` says which channels are live; it holds of the
-- number of the display's walls too, which a point touches as it does the windows of live channels.
use Rattle.std.specs.Prelude.{ℕ, ℤ, Bool, not, ◌&&◌, List, [], Option, is_some, option_map, filter, if◌then◌else◌}
use Rattle.std.specs.List.{find, before_first}
use Rattle.window_snapshot.specs.declared.window.Window.{Window}
use Rattle.window_snapshot.specs.Named.{is_named}
use Rattle.window_snapshot.specs.Window.{is_hit, is_spy, watches_outside}

-- the point hits the window, and the window is no spy: it takes the touch from those behind it
abbrev pub takes_touch : (ℕ → Bool) → ℤ → ℤ → Window → Bool
takes_touch live x y w = not (is_spy w) && is_hit live x y w

-- the point hits the window, and the window is a spy: it sees the touch and leaves it to those behind it
abbrev pub spies_touch : (ℕ → Bool) → ℤ → ℤ → Window → Bool
spies_touch live x y w = is_spy w && is_hit live x y w

-- the touched window is the first that takes the touch
abbrev pub touched_window : List Window → (ℕ → Bool) → ℤ → ℤ → Option Window
touched_window windows live x y = find (takes_touch live x y) windows

-- its channel, or the number of the walls
abbrev pub touched : List Window → (ℕ → Bool) → ℤ → ℤ → Option ℕ
touched windows live x y = option_map (λ w. w.channel) (touched_window windows live x y)

-- the windows in front of the touched one, or all of them where nothing is touched
abbrev pub in_front : List Window → (ℕ → Bool) → ℤ → ℤ → List Window
in_front windows live x y = before_first (takes_touch live x y) windows

-- the spies at the point are those that it hits in front of the touched window
abbrev pub spies : List Window → (ℕ → Bool) → ℤ → ℤ → List Window
spies windows live x y = filter (spies_touch live x y) (in_front windows live x y)

-- the window is live and asks to be sent touches outside of it
abbrev pub watches : (ℕ → Bool) → Window → Bool
watches live w = watches_outside w && live w.channel

-- the watchers at the point are those in front of the touched window; nobody watches where nothing is touched
abbrev pub watchers : List Window → (ℕ → Bool) → ℤ → ℤ → List Window
watchers windows live x y = if is_some (touched_window windows live x y) then filter (watches live) (in_front windows live x y) else []

-- the channel is that of a spy at the point
abbrev pub is_spy_at : List Window → (ℕ → Bool) → ℤ → ℤ → ℕ → Bool
is_spy_at windows live x y c = is_named (spies windows live x y) c

-- the channel is that of a watcher at the point
abbrev pub is_watcher_at : List Window → (ℕ → Bool) → ℤ → ℤ → ℕ → Bool
is_watcher_at windows live x y c = is_named (watchers windows live x y) c
