-- A motion of a device, as sent to a window that holds some of its pointers.
use Rattle.std.specs.Prelude.{ℕ, Bool, ◌&&◌, List, [], ◌∷◌, Option, Some, None, if◌then◌else◌}
use Rattle.input_types.specs.declared.motion.Motion.{Motion}
use Rattle.input_types.specs.declared.motion.MotionAction.TheVariants.{Down, Move}
use Rattle.input_types.specs.declared.pointer.Pointer.{Pointer}
use Rattle.routing_rules.specs.Given.{changed}
use Rattle.routing_rules.specs.Outgoing.{listing, plain, opening, closing, is_up, is_down, is_cancelled}

-- What a window with these pointers of the motion, those in the set, is sent. The changed pointer goes down in it, if
-- the motion is a down and the window holds that pointer. It goes up, if the motion is an up of it, cancelled if the
-- motion is. Otherwise what the window holds moves.
abbrev pub part_about : Motion → Option Pointer → (held : ℕ → Bool) → List Pointer → Motion
part_about m None held ps = plain m.device Move ps
part_about m (Some p) held ps =
    if held p.id && is_down m.action then opening m.device p.id ps
    else if held p.id && is_up m.action then closing m.device p.id (is_cancelled m.action m.flags) ps
    else plain m.device Move ps

-- nothing, if it has none of them
abbrev pub part_of : Motion → Option Pointer → (held : ℕ → Bool) → List Pointer → Option Motion
part_of m p held [] = None
part_of m p held (q ∷ qs) = Some (part_about m p held (q ∷ qs))

-- the motion of a window that holds these ids
abbrev pub split_of : Motion → (held : ℕ → Bool) → Option Motion
split_of m held = part_of m (changed m) held (listing held m.pointers)

-- the same motion as a down of its changed pointer
abbrev pub as_down : Motion → Motion
as_down m = record m { action = Down }
