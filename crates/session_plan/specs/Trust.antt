-- What a window of a step says of touches that come through it.
use Rattle.std.specs.Prelude.{ℕ, codes, List, Option, None, Some, if◌then◌else◌, Result}
use Rattle.std.specs.Str.{bytes_eq}
use Rattle.toml.specs.Data.{Data, get, as_str}
use Rattle.window_snapshot.specs.declared.occlusion.Occlusion.{Occlusion}
use Rattle.window_snapshot.specs.declared.occlusion.Occlusion.TheVariants.{Block, Opacity, Allow}
use Rattle.session_plan.specs.declared.key.Place.{Place}
use Rattle.session_plan.specs.Fault.{Fault, ◌>>=◌}
use Rattle.session_plan.specs.Keys.{key_of}
use Rattle.session_plan.specs.Reading.{of_kind, or_default}

-- the occlusion with a name
abbrev pub occlusion_named : List ℕ → Option Occlusion
occlusion_named name =
    if bytes_eq name (codes "block") then Some Block
    else if bytes_eq name (codes "opacity") then Some Opacity
    else if bytes_eq name (codes "allow") then Some Allow
    else None

-- the occlusion that a text names
abbrev pub occlusion_of : List ℕ → Data → Result Occlusion Fault
occlusion_of key d = of_kind key (as_str d) >>= λ name. of_kind key (occlusion_named name)

-- the occlusion of a window: no touch may go through it where nothing stands there
unfoldable pub occlusion_at : Place → Data → Result Occlusion Fault
occlusion_at place d = or_default Block (get (codes "occlusion") d) (occlusion_of (key_of place (codes "occlusion")))
