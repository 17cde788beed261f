-- The cancels of pointers that are taken from a window, one after the other.
use Rattle.std.specs.Prelude.{ℕ, Bool, true, false, List, [], ◌∷◌}
use Rattle.input_types.specs.declared.motion.Motion.{Motion}
use Rattle.input_types.specs.declared.motion.MotionAction.TheVariants.{Cancel}
use Rattle.input_types.specs.declared.pointer.Pointer.{Pointer}
use Rattle.routing_rules.specs.Outgoing.{plain, cancelled_ups}

-- pointers of a device are taken from a window: whether it keeps none, what it still has, and which cancels it must
-- still be sent
pub record Cancelling : Type 0 where
  pub device : ℕ
  pub ends : Bool
  pub left : List Pointer
  pub gone : List Pointer

-- one Cancel of what it still has if it keeps none, and otherwise a cancelled up for each lost pointer
abbrev pub sent_from : ℕ → (ends : Bool) → (left gone : List Pointer) → List Motion
sent_from d ends left [] = []
sent_from d true left (p ∷ gone) = plain d Cancel left ∷ []
sent_from d false left (p ∷ gone) = cancelled_ups d left (p ∷ gone)

-- the motions that the window must still be sent
abbrev pub still_sent : Cancelling → List Motion
still_sent c = sent_from c.device c.ends c.left c.gone
