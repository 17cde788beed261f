-- What a snapshot says of a channel.
use Rattle.std.specs.Prelude.{ℕ, Bool, ◌==◌, ◌&&◌, List, Option, option_map, filter}
use Rattle.std.specs.List.{list_any, find, position}
use Rattle.input_types.specs.declared.axis.Pixel.{Pixel}
use Rattle.window_snapshot.specs.declared.flags.WindowFlags.{WindowFlags}
use Rattle.window_snapshot.specs.declared.window.Window.{Window}
use Rattle.window_snapshot.specs.Window.{is_focusable}

-- the snapshot names the channel: a window is of it
abbrev pub is_named : List Window → ℕ → Bool
is_named windows c = list_any (λ w. w.channel == c) windows

-- the window of the channel
abbrev pub window_of : List Window → ℕ → Option Window
window_of windows c = find (λ w. w.channel == c) windows

-- how many windows stand in front of that of the channel
abbrev pub place_of : List Window → ℕ → Option ℕ
place_of windows c = position (λ w. w.channel == c) windows

-- the flags of the channel's window
abbrev pub flags_of : List Window → ℕ → Option WindowFlags
flags_of windows c = option_map (λ w. w.flags) (window_of windows c)

-- the left top corner of the window's frame, from which its owner counts
abbrev pub origin : Window → Pixel
origin w = record { x = w.frame.left; y = w.frame.top }

-- the origin of the channel's window
abbrev pub origin_of : List Window → ℕ → Option Pixel
origin_of windows c = option_map origin (window_of windows c)

-- the display of the channel's window
abbrev pub display_of : List Window → ℕ → Option ℕ
display_of windows c = option_map (λ w. w.display) (window_of windows c)

-- the channel is that of a window on display y
abbrev pub is_shown_on : List Window → ℕ → ℕ → Bool
is_shown_on windows y c = is_named (filter (λ w. w.display == y) windows) c

-- the channel is that of a window on display y that may have the focus
abbrev pub is_focusable_on : List Window → ℕ → ℕ → Bool
is_focusable_on windows y c = is_named (filter (λ w. w.display == y && is_focusable w) windows) c
