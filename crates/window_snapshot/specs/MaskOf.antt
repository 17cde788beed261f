-- The channels of windows as a mask.
use Rattle.std.specs.Prelude.{ℕ, List, fold}
use Rattle.window_snapshot.specs.declared.window.Window.{Window}
use Rattle.window_snapshot.specs.Mask.{mask_with}

-- the mask with the channel of each of the windows
abbrev pub mask_of : List Window → ℕ
mask_of windows = fold (λ mask w. mask_with mask w.channel) 0 windows
