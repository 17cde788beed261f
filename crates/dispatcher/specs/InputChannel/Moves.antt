-- Pointers that move, as the owner of a channel reads them.
use Rattle.std.specs.Prelude.{ℕ, List, map}
use Rattle.input_types.specs.declared.axis.Pixel.{Pixel}
use Rattle.input_types.specs.declared.message.Body.{Body}
use Rattle.input_types.specs.declared.message.Body.TheVariants.{Motion as MotionBody}
use Rattle.input_types.specs.declared.motion.Motion.{Motion}
use Rattle.input_types.specs.declared.motion.MotionAction.TheVariants.{Move}
use Rattle.input_types.specs.declared.pointer.Pointer.{Pointer}
use Rattle.window_snapshot.specs.Origins.{place_from}

-- pointers whose places are counted from an origin
abbrev pub counted_from : Pixel → List Pointer → List Pointer
counted_from o ps = map (λ p. record { id = p.id; at = place_from o p.at }) ps

-- the Move of pointers of a device, with these flags
abbrev pub move_of : (device flags : ℕ) → List Pointer → Motion
move_of device flags ps = record { device = device; action = Move; index = 0; flags = flags; pointers = ps }

-- the same with their places counted from an origin, as a body
abbrev pub moves_from : Pixel → (device flags : ℕ) → List Pointer → Body
moves_from o device flags ps = MotionBody (move_of device flags (counted_from o ps))
