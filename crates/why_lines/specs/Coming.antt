-- A motion that may come.
use Rattle.std.specs.Prelude.{◌≡◌, ℕ, List, Some}
use Rattle.input_types.specs.declared.motion.Motion.{Motion}
use Rattle.input_types.specs.Pointers.{IsRising}
use Rattle.routing_rules.specs.Scene.{Scene, Moves}
use Rattle.routing_rules.specs.Fits.{Fits, down_after}

-- The motion may come at this moment: the moment fits the ids that are down on its device, the motion may follow them, and its
-- pointers have rising ids.
pub record MayCome (s : Scene) (m : Motion) : Type 0 where
  pub down : List ℕ
  pub next : List ℕ
  pub fits : Fits s m.device down
  pub rises : IsRising m.pointers
  pub comes : down_after (Moves m) m.device down ≡ Some next
