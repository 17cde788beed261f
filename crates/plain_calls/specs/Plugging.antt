-- Panels as C describes them.
use Rattle.std.specs.Prelude.{List, [], ◌∷◌, slice_get, Option, Some, None, if◌then◌else◌}
use Rattle.std.specs.Option.{option_and_then}
use Rattle.input_types.specs.declared.axis.Axis.{Axis}
use Rattle.input_types.specs.declared.axis.Rotation.{Rotation}
use Rattle.input_types.specs.declared.axis.Rotation.TheVariants.{R0, R90, R180, R270}
use Rattle.device_reader.specs.TouchMapper.Cooking.{Cooking, can_cook}
use Rattle.plain_calls.specs.declared.plugging.PlainAxis.{PlainAxis}
use Rattle.plain_calls.specs.declared.plugging.PlainCook.{PlainCook}

-- an axis by its ends
abbrev pub axis_of : PlainAxis → Axis
axis_of a = record { min = a.min; max = a.max }

-- the rotations by their numbers, which are those of Surface.ROTATION_90 and the like
abbrev pub rotations : List Rotation
rotations = R0 ∷ R90 ∷ R180 ∷ R270 ∷ []

-- how positions become pixels, if the axes have a position, the display has 1 to 16,384 pixels each way, and the
-- rotation is one
abbrev pub cook_of : PlainCook → Option Cooking
cook_of p =
    option_and_then (λ r. if can_cook (axis_of p.x) (axis_of p.y) p.width p.height
    then Some (record { x = axis_of p.x; y = axis_of p.y; width = p.width; height = p.height; rotation = r })
    else None) (slice_get rotations p.rotation)
