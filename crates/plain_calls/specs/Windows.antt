-- Windows as C hands them in.
use Rattle.std.specs.Prelude.{◌≡◌, ℕ, nat_le, List, [], ◌∷◌, map, take, drop, length, Option, Some, None, Result, Ok, Err, if◌then◌else◌}
use Rattle.std.specs.declared.alloc.Global.{Global}
use Rattle.std.specs.declared.vec.Vec.{Vec}
use Rattle.std.specs.Option.{option_map, option_and_then}
use Rattle.touch_region.specs.declared.rectangle.Rect.{Rect}
use Rattle.touch_region.specs.Region.{region_of}
use Rattle.window_snapshot.specs.declared.occlusion.Occlusion.{Occlusion}
use Rattle.live_input.specs.declared.windows.ClientWindow.{ClientWindow}
use Rattle.live_input.specs.declared.windows.WindowInfo.{WindowInfo}
use Rattle.plain_calls.specs.Calling.{ok_of}
use Rattle.plain_calls.specs.Clients.{maybe_client}
use Rattle.plain_calls.specs.Numbers.{display_of, occlusion_of, percent_of}
use Rattle.plain_calls.specs.declared.windows.PlainRect.{PlainRect}
use Rattle.plain_calls.specs.declared.windows.PlainWindow.{PlainWindow}
use Rattle.plain_calls.specs.declared.windows.Unread.{Unread}
use Rattle.plain_calls.specs.declared.windows.Unread.TheVariants.{Range, Memory}

-- a rectangle by its edges
abbrev pub rect_of : PlainRect → Rect
rect_of r = record { left = r.left; top = r.top; right = r.right; bottom = r.bottom }

-- the region of rectangles, if they make one: at most 64, each with its edges in order
abbrev pub region_from : List PlainRect → Option (List Rect)
region_from rects = ok_of (region_of (map rect_of rects))

-- a window on this display, with this opacity, occlusion and region
abbrev pub info_with : PlainWindow → (display opacity : ℕ) → Occlusion → (region : List Rect) → WindowInfo
info_with w y opacity occlusion region = record {
  display = y;
  frame = rect_of w.frame;
  region = region;
  flags = record { bits = w.flags };
  owner = w.owner;
  opacity = opacity;
  occlusion = occlusion;
}

-- a window whose display, opacity and occlusion are in their ranges, and whose rectangles make a region
abbrev pub info_from : PlainWindow → List PlainRect → Option WindowInfo
info_from w rects =
    option_and_then (λ y.
    option_and_then (λ p.
    option_and_then (λ o. option_map (info_with w y p o) (region_from rects)) (occlusion_of w.occlusion))
    (percent_of w.opacity)) (display_of w.display)

-- such a window of its client; one whose client has the channel 0 is a wall
abbrev pub window_from : PlainWindow → List PlainRect → Option ClientWindow
window_from w rects = option_map (λ i. record { client = maybe_client w.client; info = i }) (info_from w rects)

-- The windows, front to back. Each has as many rectangles as it says, taken after those of the windows before it;
-- surplus rectangles are ignored.
abbrev pub windows_from : List PlainWindow → List PlainRect → Option (List ClientWindow)
windows_from [] rects = Some []
windows_from (w ∷ ws) rects =
    if nat_le w.rects (length rects)
    then option_and_then (λ v. option_map (λ vs. v ∷ vs) (windows_from ws (drop w.rects rects))) (window_from w (take w.rects rects))
    else None

-- one window, except its client, whose rectangles are the first of these; surplus rectangles are ignored
abbrev pub one_from : PlainWindow → List PlainRect → Option WindowInfo
one_from w rects = if nat_le w.rects (length rects) then info_from w (take w.rects rects) else None

-- What was read is what the numbers say, or nothing if one is out of its range. Memory may run out at any time.
abbrev pub IsRead : {A : Type 0} → Result A Unread → Option A → Type 0
IsRead (Ok a) due = due ≡ Some a
IsRead (Err Range) due = due ≡ None
IsRead (Err Memory) due = Unit {0}

-- the same of a list that was read into memory
abbrev pub AreRead : {A : Type 0} → Result (Vec A Global) Unread → Option (List A) → Type 0
AreRead (Ok read) due = due ≡ Some read.items
AreRead (Err Range) due = due ≡ None
AreRead (Err Memory) due = Unit {0}
