-- Which windows lie over a window of another owner, and which of those block it. `live` says which channels are live on the
-- display of the point, so a window of another display is none of them; it holds of the number of that display's walls too.
use Rattle.std.specs.Prelude.{ℕ, ℤ, ◌-◌, ◌*◌, ◌/◌, Bool, not, ◌&&◌, ◌||◌, ◌==◌, nat_lt, List, fold, filter}
use Rattle.std.specs.Int.RustNames.{int_lt}
use Rattle.std.specs.List.{list_any, before_first}
use Rattle.touch_region.specs.declared.rectangle.Rect.{Rect}
use Rattle.touch_region.specs.Rectangle.{rect_holds}
use Rattle.window_snapshot.specs.declared.window.Window.{Window}
use Rattle.window_snapshot.specs.Named.{is_named}
use Rattle.window_snapshot.specs.Opaque.{is_blocking, is_dimming}
use Rattle.window_snapshot.specs.Window.{is_touchable, is_trusted_overlay}

-- nobody sees the window and nobody touches it, so it misleads nobody
abbrev pub is_absent : Window → Bool
is_absent v = v.opacity == 0 && not (is_touchable v)

-- v may obscure w where it stands in front of it: it is live and of another owner, no overlay of the system, and not absent
abbrev pub may_obscure : (ℕ → Bool) → Window → Window → Bool
may_obscure live w v = live v.channel && (not (v.owner == w.owner) && (not (is_trusted_overlay v) && not (is_absent v)))

-- v obscures w at the point: its frame has the point
abbrev pub obscures : (ℕ → Bool) → Window → ℤ → ℤ → Window → Bool
obscures live w x y v = may_obscure live w v && rect_holds v.frame x y

-- two half-open stretches have a number in common: each begins before both end
abbrev pub stretches_meet : (a b c d : ℤ) → Bool
stretches_meet a b c d = (int_lt a b && int_lt a d) && (int_lt c b && int_lt c d)

-- two rectangles have a point in common
abbrev pub rects_meet : Rect → Rect → Bool
rects_meet p q = stretches_meet p.left p.right q.left q.right && stretches_meet p.top p.bottom q.top q.bottom

-- v overlaps w: some point is in both frames
abbrev pub overlaps : (ℕ → Bool) → Window → Window → Bool
overlaps live w v = may_obscure live w v && rects_meet v.frame w.frame

-- what comes through a window of what comes to it, rounded down
abbrev pub dimmed : ℕ → Window → ℕ
dimmed light v = light * (100 - v.opacity) / 100

-- how clear w is at the point through the windows of one owner in front of it whose opacity decides, of 1,000,000
abbrev pub clearness : (ℕ → Bool) → (front : List Window) → Window → ℤ → ℤ → (owner : ℕ) → ℕ
clearness live front w x y owner =
    fold dimmed 1000000 (filter (λ v. v.owner == owner && (is_dimming v.occlusion && obscures live w x y v)) front)

-- v blocks w at the point: no touch may go through it, or its opacity decides and w is less than a fifth clear through its
-- owner's windows
abbrev pub blocks : (ℕ → Bool) → (front : List Window) → Window → ℤ → ℤ → Window → Bool
blocks live front w x y v =
    obscures live w x y v
    && (is_blocking v.occlusion || (is_dimming v.occlusion && nat_lt (clearness live front w x y v.owner) 200000))

-- the windows in front of that of the channel
abbrev pub in_front_of : List Window → ℕ → List Window
in_front_of windows c = before_first (λ v. v.channel == c) windows

-- some window blocks w at the point
abbrev pub is_blocked : List Window → (ℕ → Bool) → ℤ → ℤ → Window → Bool
is_blocked windows live x y w = list_any (blocks live (in_front_of windows w.channel) w x y) (in_front_of windows w.channel)

-- some window obscures w at the point
abbrev pub is_obscured : List Window → (ℕ → Bool) → ℤ → ℤ → Window → Bool
is_obscured windows live x y w = list_any (obscures live w x y) (in_front_of windows w.channel)

-- some window overlaps w
abbrev pub is_overlapped : List Window → (ℕ → Bool) → Window → Bool
is_overlapped windows live w = list_any (overlaps live w) (in_front_of windows w.channel)

-- the channel is that of a window that is blocked at the point
abbrev pub is_blocked_at : List Window → (ℕ → Bool) → ℤ → ℤ → ℕ → Bool
is_blocked_at windows live x y c = is_named (filter (is_blocked windows live x y) windows) c

-- the channel is that of a window that is obscured at the point
abbrev pub is_obscured_at : List Window → (ℕ → Bool) → ℤ → ℤ → ℕ → Bool
is_obscured_at windows live x y c = is_named (filter (is_obscured windows live x y) windows) c

-- the channel is that of a window that is overlapped
abbrev pub is_overlapped_on : List Window → (ℕ → Bool) → ℕ → Bool
is_overlapped_on windows live c = is_named (filter (is_overlapped windows live) windows) c
