-- How the windows and their origins change.
use Rattle.std.specs.Prelude.{◌≡◌, ◌≤◌, ℕ, List}
use Rattle.input_types.specs.declared.axis.Pixel.{Pixel}
use Rattle.window_snapshot.specs.declared.window.Window.{Window}
use Rattle.window_snapshot.specs.Named.{origin_of}
use Rattle.window_snapshot.specs.Origins.{or_origin}
use Rattle.dispatcher.specs.Shown.{Shown, origin_at}

-- the origin of the window of a channel once these windows are shown: the one that they give, or else the one before
abbrev pub origins_from : List Window → ℕ → Pixel → Pixel
origins_from windows w before = or_origin (origin_of windows w) before

-- these windows are shown, and each channel that they list has the origin that they give
pub record Shows (windows : List Window) (old new : Shown) : Type 0 where
  pub windows_are : new.windows ≡ windows
  pub origins_are : (w : ℕ) → 1 ≤ w → w ≤ 64 → origin_at new.origins w ≡ origins_from windows w (origin_at old.origins w)
