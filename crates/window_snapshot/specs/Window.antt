-- What a window's flags say, and whether a point hits it.
use Rattle.std.specs.Prelude.{ℕ, ℤ, Bool, not, ◌&&◌, ◌==◌, bit_and}
use Rattle.touch_region.specs.RectList.{region_holds}
use Rattle.window_snapshot.specs.declared.window.Window.{Window}
use Rattle.window_snapshot.specs.Mask.{is_channel}

-- the window has the flag with this bit
abbrev pub has_flag : Window → ℕ → Bool
has_flag w flag = bit_and w.flags.bits flag == flag

-- without NOT_TOUCHABLE
abbrev pub is_touchable : Window → Bool
is_touchable w = not (has_flag w 1)

-- without NOT_FOCUSABLE
abbrev pub is_focusable : Window → Bool
is_focusable w = not (has_flag w 2)

-- with WATCH_OUTSIDE_TOUCH; a window without a channel does not watch
abbrev pub watches_outside : Window → Bool
watches_outside w = is_channel w.channel && has_flag w 4

-- with SLIPPERY
abbrev pub is_slippery : Window → Bool
is_slippery w = has_flag w 8

-- with SPY; a window without a channel is no spy
abbrev pub is_spy : Window → Bool
is_spy w = is_channel w.channel && has_flag w 16

-- with PREVENT_SPLITTING; a window without a channel does not prevent it
abbrev pub prevents_splitting : Window → Bool
prevents_splitting w = is_channel w.channel && has_flag w 32

-- with TRUSTED_OVERLAY
abbrev pub is_trusted_overlay : Window → Bool
is_trusted_overlay w = has_flag w 64

-- the point hits the window: it is touchable, a motion can reach it, and its region has the point
abbrev pub is_hit : (ℕ → Bool) → ℤ → ℤ → Window → Bool
is_hit live x y w = is_touchable w && live w.channel && region_holds w.region x y
