-- What windows lose to a spy that pilfers a device.
use Rattle.std.specs.Prelude.{ℕ, ◌-◌, Bool, not, ◌&&◌, ◌==◌, List, slice_index_or, if◌then◌else◌}
use Rattle.window_snapshot.specs.Mask.{is_channel}
use Rattle.touch_state.specs.Touches.{Touches, holds}

-- what the spy holds is taken from all other windows
abbrev pub pilfered : Touches → (spy window id : ℕ) → Bool
pilfered t spy w i = not (w == spy) && holds t spy i

-- the set of a window, from a table with one for each channel
abbrev pub set_of : List ℕ → ℕ → ℕ
set_of sets w = if is_channel w then slice_index_or sets (w - 1) 0 else 0
