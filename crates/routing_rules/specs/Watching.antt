-- Windows that watch for touches outside of them.
use Rattle.std.specs.Prelude.{ℕ, Bool, false, List, [], ◌∷◌, Option, Some, None}
use Rattle.input_types.specs.declared.motion.Motion.{Motion}
use Rattle.input_types.specs.declared.motion.MotionAction.TheVariants.{Outside}
use Rattle.input_types.specs.declared.pointer.Pointer.{Pointer}
use Rattle.routing_rules.specs.Scene.{Scene}
use Rattle.routing_rules.specs.Outgoing.{plain, watches}

-- the window watches for touches outside of it, and this pointer begins a gesture
abbrev pub is_watching : Scene → Motion → Option Pointer → ℕ → Bool
is_watching s m None w = false
is_watching s m (Some p) w = watches s m p w

-- a window is sent a touch outside, if there is such a pointer
abbrev pub outside_of : ℕ → Option Pointer → List Motion
outside_of d None = []
outside_of d (Some p) = plain d Outside (p ∷ []) ∷ []
