-- Display 0 of a session, as it is turned.
use Rattle.std.specs.Prelude.{ℕ, Bool, true, false, if◌then◌else◌, List, [], ◌∷◌, length}
use Rattle.input_types.specs.declared.axis.Rotation.{Rotation}
use Rattle.input_types.specs.declared.axis.Rotation.TheVariants.{R0, R90, R180, R270}
use Rattle.session_plan.specs.declared.plan.Display.{Display}
use Rattle.session_plan.specs.Plan.{PlanData}
use Rattle.cursor_core.specs.Calls.{Screen}

-- turned by none or two quarters
abbrev pub is_upright : Rotation → Bool
is_upright R0 = true
is_upright R90 = false
is_upright R180 = true
is_upright R270 = false

-- the extent of a display as it is turned, from left to right
abbrev pub width_of : Display → ℕ
width_of d = if is_upright d.rotation then d.width else d.height

-- and from top to bottom
abbrev pub height_of : Display → ℕ
height_of d = if is_upright d.rotation then d.height else d.width

-- the first of these displays, with so many channels; there is always a first one
abbrev pub screen_on : List Display → ℕ → Screen
screen_on [] channels = record { width = 0; height = 0; channels = channels }
screen_on (d ∷ ds) channels = record { width = width_of d; height = height_of d; channels = channels }

-- the setting of a session's cursor: display 0, and the channels, all of which are live at first
abbrev pub screen_of : PlanData → Screen
screen_of plan = screen_on plan.displays (length plan.channels)
