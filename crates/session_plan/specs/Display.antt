-- The displays of a session.
use Rattle.std.specs.Prelude.{ℕ, ℤ, pos, ◌-◌, codes, Option, Some, None, if◌then◌else◌, List, [], ◌∷◌, Result, Ok}
use Rattle.std.specs.Ordering.{int_eq}
use Rattle.toml.specs.Data.{Data, get, as_integer}
use Rattle.input_types.specs.declared.axis.Rotation.{Rotation}
use Rattle.input_types.specs.declared.axis.Rotation.TheVariants.{R0, R90, R180, R270}
use Rattle.session_plan.specs.declared.key.Place.{Place}
use Rattle.session_plan.specs.declared.key.Place.TheVariants as place
use Rattle.session_plan.specs.declared.plan.Display.{Display}
use Rattle.session_plan.specs.Fault.{Fault, ◌>>=◌}
use Rattle.session_plan.specs.Keys.{key_of}
use Rattle.session_plan.specs.Reading.{required, of_kind, needs, or_default, is_table, number_at, number_or, tables_at, at_most, each}

-- a quarter turn or several
abbrev pub turned : ℤ → Option Rotation
turned z =
    if int_eq z (pos 0) then Some R0
    else if int_eq z (pos 90) then Some R90
    else if int_eq z (pos 180) then Some R180
    else if int_eq z (pos 270) then Some R270
    else None

-- how far a display is turned, in degrees
abbrev pub rotation_of : List ℕ → Data → Result Rotation Fault
rotation_of key d = of_kind key (as_integer d) >>= λ z. of_kind key (turned z)

-- the extent of a display and how far it is turned, as its table says
unfoldable pub display_of : Place → Data → Result Display Fault
display_of place d = do
  width ← number_at place (codes "width") (pos 1) (pos 16384) d
  height ← number_at place (codes "height") (pos 1) (pos 16384) d
  rotation ← or_default R0 (get (codes "rotation") d) (rotation_of (key_of place (codes "rotation")))
  Ok (record { width = width; height = height; rotation = rotation })

-- display 0 of a document
unfoldable pub display_at : Data → Result Display Fault
display_at d = do
  found ← required (key_of place.Document (codes "display")) (get (codes "display") d)
  plain ← needs (key_of place.Document (codes "display")) (is_table found)
  display_of place.Display found

-- the displays of a document beside display 0: entry k is display k
unfoldable pub extra_displays_of : Data → Result (List Display) Fault
extra_displays_of d = do
  ds ← tables_at place.Document (codes "extra_display") d
  few ← at_most (key_of place.Document (codes "extra_display")) 3 ds
  each (λ k found e. display_of (place.ExtraDisplay k) e) 1 [] ds

-- the displays of a document, from display 0 on
unfoldable pub displays_of : Data → Result (List Display) Fault
displays_of d = do
  first ← display_at d
  others ← extra_displays_of d
  Ok (first ∷ others)

-- the display that a device, a window or a focus step is on, of a session with so many displays; display 0 where none is named
unfoldable pub display_number : ℕ → Place → Data → Result ℕ Fault
display_number displays place d = number_or 0 place (codes "display") (pos 0) (pos (displays - 1)) d
