-- A pointer that slips from one window to another.
use Rattle.std.specs.Prelude.{ℕ, not, ◌==◌, ◌&&◌, if◌then◌else◌, List, [], ◌∷◌, Option, Some, None}
use Rattle.input_types.specs.declared.axis.Pixel.{Pixel}
use Rattle.input_types.specs.declared.motion.Motion.{Motion}
use Rattle.input_types.specs.declared.motion.MotionAction.{MotionAction}
use Rattle.input_types.specs.declared.motion.MotionAction.TheVariants.{Move}
use Rattle.input_types.specs.declared.pointer.Pointer.{Pointer}
use Rattle.window_snapshot.specs.Window.{is_spy, is_slippery}
use Rattle.window_snapshot.specs.Hits.{touched}
use Rattle.routing_rules.specs.Scene.{Scene, shows, which}
use Rattle.routing_rules.specs.Choice.{may_take}

-- the window from which a pointer slips, and the one to which it slips
pub record Slip : Type 0 where
  pub from : ℕ
  pub to : ℕ

-- the only element of a list of one
abbrev pub only : {X : Type 0} → List X → Option X
only [] = None
only (x ∷ []) = Some x
only (x ∷ y ∷ xs) = None

-- the windows without SPY that hold this pointer
abbrev pub holders_of : Scene → ℕ → ℕ → List ℕ
holders_of s d i = which s (λ v. not (is_spy v) && s.holds v.channel d i)

-- a pointer of the device at this place slips from its only holder to the touched window if the holder is slippery and the
-- touched window is another one that may be given it
abbrev pub slips_to : Scene → ℕ → Pixel → Option ℕ → Option ℕ → Option Slip
slips_to s d at (Some v) (Some t) = if shows s is_slippery v && not (t == v) && may_take s d at t then Some (record { from = v; to = t }) else None
slips_to s d at _ _ = None

-- a motion lets a pointer slip if it is a move that lists only that pointer
abbrev pub slip_of : Scene → ℕ → MotionAction → Option Pointer → Option Slip
slip_of s d Move (Some p) = slips_to s d p.at (only (holders_of s d p.id)) (touched s.windows (s.reach d) p.at.x p.at.y)
slip_of s d _ _ = None

-- what slips at a motion
abbrev pub slip : Scene → Motion → Option Slip
slip s m = slip_of s m.device m.action (only m.pointers)
