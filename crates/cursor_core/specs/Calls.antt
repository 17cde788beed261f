-- What the calls of a cursor mean. Lists of calls are newest first; the tail is what came before a call.
use Rattle.std.specs.Prelude.{ℕ, ℤ, pos, ◌+ℤ◌, ◌-◌, ◌/◌, max, nat_le, nat_lt, Bool, true, false, not, ◌==◌, ◌&&◌, ◌||◌, if◌then◌else◌, List, [], ◌∷◌, Option, Some, None}
use Rattle.std.specs.Int.{int_max, int_min}
use Rattle.input_types.specs.declared.axis.Pixel.{Pixel}
use Rattle.window_snapshot.specs.declared.window.Window.{Window}
use Rattle.window_snapshot.specs.Hits.{touched}
use Rattle.window_snapshot.specs.Mask.{is_channel}
use Rattle.window_snapshot.specs.Named.{origin_of, is_shown_on}
use Rattle.window_snapshot.specs.Walls.{wall_on}
use Rattle.cursor_core.specs.declared.call.CursorCall.{CursorCall}
use Rattle.cursor_core.specs.declared.call.CursorCall.TheVariants.{Moved, Windows, Remove}
use Rattle.window_snapshot.specs.Origins.{corner, or_origin}

-- the setting of a cursor: the extents of display 0 as it is turned, and how many channels, numbered from 1, are live
-- at first
pub record Screen : Type 0 where
  pub width : ℕ
  pub height : ℕ
  pub channels : ℕ

-- the moment of a call
abbrev pub moment_of : CursorCall → ℕ
moment_of (Moved now dx dy) = now
moment_of (Windows now snapshot) = now
moment_of (Remove now channel) = now

-- the clock: the latest moment of any call, 0 at first
abbrev pub clock : List CursorCall → ℕ
clock [] = 0
clock (call ∷ calls) = max (moment_of call) (clock calls)

-- the mouse moves
abbrev pub is_motion : CursorCall → Bool
is_motion (Moved now dx dy) = true
is_motion (Windows now snapshot) = false
is_motion (Remove now channel) = false

-- the mouse has moved
abbrev pub has_moved : List CursorCall → Bool
has_moved [] = false
has_moved (call ∷ calls) = is_motion call || has_moved calls

-- a position on an axis, clamped to the pixels of an extent
abbrev pub kept_on : ℕ → ℤ → ℤ
kept_on extent z = int_max (pos 0) (int_min z (pos (extent - 1)))

-- a motion moves the cursor by its two distances, and keeps it on the display
abbrev pub cursor_after : Screen → CursorCall → Pixel → Pixel
cursor_after d (Moved now dx dy) at = record { x = kept_on d.width (at.x +ℤ dx); y = kept_on d.height (at.y +ℤ dy) }
cursor_after d (Windows now snapshot) at = at
cursor_after d (Remove now channel) at = at

-- the cursor, at first in the middle of the display
abbrev pub cursor : Screen → List CursorCall → Pixel
cursor d [] = record { x = pos (d.width / 2); y = pos (d.height / 2) }
cursor d (call ∷ calls) = cursor_after d call (cursor d calls)

-- a new snapshot replaces the last one
abbrev pub windows_after : CursorCall → List Window → List Window
windows_after (Moved now dx dy) before = before
windows_after (Windows now snapshot) before = snapshot
windows_after (Remove now channel) before = before

-- the windows of the last snapshot, front to back; none at first
abbrev pub windows : List CursorCall → List Window
windows [] = []
windows (call ∷ calls) = windows_after call (windows calls)

-- a channel that is removed is no longer live
abbrev pub live_after : CursorCall → ℕ → Bool → Bool
live_after (Moved now dx dy) c before = before
live_after (Windows now snapshot) c before = before
live_after (Remove now k) c before = not (c == k) && before

-- the channels from 1 to `n` are live until they are removed
abbrev pub live : ℕ → List CursorCall → ℕ → Bool
live n [] c = nat_lt 0 c && nat_le c n
live n (call ∷ calls) c = live_after call c (live n calls c)

-- a snapshot that contains a window gives its origin
abbrev pub origin_after : CursorCall → ℕ → Pixel → Pixel
origin_after (Moved now dx dy) w before = before
origin_after (Windows now snapshot) w before = or_origin (origin_of snapshot w) before
origin_after (Remove now channel) w before = before

-- the origin of a window: the corner of its frame in the last snapshot that contained it
abbrev pub origin : List CursorCall → ℕ → Pixel
origin [] w = corner
origin (call ∷ calls) w = origin_after call w (origin calls w)

-- the origin that these windows give, or else the corner of the display
abbrev pub corner_of : List Window → ℕ → Pixel
corner_of ws w = or_origin (origin_of ws w) corner

-- the window of a channel; a wall is none
abbrev pub channel_of : Option ℕ → Option ℕ
channel_of None = None
channel_of (Some c) = if is_channel c then Some c else None

-- the hovered window: none before the mouse has moved, and then the one that a touch at the cursor would go to, of those that are live
-- and on display 0; a wall there hides what is behind it
abbrev pub hovered_by : Bool → List Window → (ℕ → Bool) → Pixel → Option ℕ
hovered_by moved ws live at =
    if moved then channel_of (touched ws (λ c. live c && is_shown_on ws 0 c || c == wall_on 0) at.x at.y) else None

-- the hovered window after these calls
abbrev pub hovered : Screen → List CursorCall → Option ℕ
hovered d calls = hovered_by (has_moved calls) (windows calls) (live d.channels calls) (cursor d calls)
