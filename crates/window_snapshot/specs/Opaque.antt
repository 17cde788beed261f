-- What the occlusion of a window says.
use Rattle.std.specs.Prelude.{Bool, true, false}
use Rattle.window_snapshot.specs.declared.occlusion.Occlusion.{Occlusion}
use Rattle.window_snapshot.specs.declared.occlusion.Occlusion.TheVariants.{Block, Opacity, Allow}

-- no touch may go through the window
abbrev pub is_blocking : Occlusion → Bool
is_blocking Block = true
is_blocking Opacity = false
is_blocking Allow = false

-- the window's opacity decides
abbrev pub is_dimming : Occlusion → Bool
is_dimming Block = false
is_dimming Opacity = true
is_dimming Allow = false
