-- A cursor after a list of calls, newest first.
use Rattle.std.specs.Prelude.{◌≡◌, ℕ, pos, ◌-◌, ◌||◌, List, Option, Some, None}
use Rattle.input_types.specs.declared.axis.Pixel.{Pixel}
use Rattle.window_snapshot.specs.declared.window.Window.{Window}
use Rattle.window_snapshot.specs.Mask.{mask_has}
use Rattle.window_snapshot.specs.Named.{origin_of}
use Rattle.cursor_core.specs.declared.call.CursorCall.{CursorCall}
use Rattle.cursor_core.specs.declared.note.Step.{Step}
use Rattle.cursor_core.specs.Calls.{Screen, clock, corner_of, cursor, has_moved, hovered, live, windows}
use Rattle.window_snapshot.specs.Origins.{corner, or_origin}
use Rattle.cursor_core.specs.Kept.{CursorState, row_of}
use Rattle.cursor_core.specs.Notes.{note_after, note_before, noted}
use Rattle.cursor_core.specs.Rows.{HasRow, rows_with}
use Rattle.cursor_core.specs.Told.{stream_of}

-- a cursor stands for these calls: it knows what they say, and keeps what they send to each channel, except what was
-- released
pub record CursorStandsFor (d : Screen) (calls : List CursorCall) (k : CursorState) : Type 0 where
  pub last_is : k.last ≡ record { x = pos (d.width - 1); y = pos (d.height - 1) }
  pub at_is : k.at ≡ cursor d calls
  pub clock_is : k.clock ≡ clock calls
  pub moved_is : k.moved ≡ has_moved calls
  pub live_is : (c : ℕ) → mask_has k.live c ≡ live d.channels calls c
  pub windows_are : k.windows ≡ windows calls
  pub hovered_is : k.hovered ≡ hovered d calls
  pub streams_are : (c : ℕ) → HasRow (stream_of d calls c) (row_of k.streams c)

-- the corner of the hovered window, or that of the display
abbrev pub corner_in : List Window → Option ℕ → Pixel
corner_in ws None = corner
corner_in ws (Some w) = corner_of ws w

-- the corner of the hovered window in the later of these windows that contain it
abbrev pub corner_after : List Window → List Window → Option ℕ → Pixel
corner_after later earlier None = corner
corner_after later earlier (Some w) = or_origin (origin_of later w) (corner_of earlier w)

-- a cursor after a step, if the windows hovered before and after it have these corners
abbrev pub stepped : CursorState → Step → Pixel → Pixel → CursorState
stepped k s left met =
    record {
      last = k.last;
      at = s.to;
      clock = s.moment;
      moved = s.moved || k.moved;
      live = s.live;
      windows = k.windows;
      hovered = s.after;
      streams = rows_with (λ w. noted (note_before s left) (note_after s met) w) 1 k.streams;
    }
