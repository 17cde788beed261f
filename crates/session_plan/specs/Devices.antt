-- The devices of a session.
use Rattle.std.specs.Prelude.{ℕ, ℤ, pos, int_le, ◌==◌, codes, ◌&&◌, ◌||◌, not, Bool, false, if◌then◌else◌, List, [], ◌∷◌, Option, Some, None, Result, Ok, Err}
use Rattle.std.specs.List.{list_any, list_all}
use Rattle.std.specs.Str.{bytes_eq}
use Rattle.toml.specs.Data.{Data, get, as_integer, as_str}
use Rattle.input_types.specs.declared.axis.Axis.{Axis}
use Rattle.key_layout.specs.declared.error.LayoutError.{LayoutError}
use Rattle.key_layout.specs.Layout.{Codes, layout_of}
use Rattle.session_plan.specs.declared.key.Place.TheVariants as place
use Rattle.session_plan.specs.declared.device.Span.{Span}
use Rattle.session_plan.specs.declared.plan.DeviceKind.{DeviceKind}
use Rattle.session_plan.specs.declared.plan.DeviceKind.TheVariants.{Touch, Keys}
use Rattle.session_plan.specs.Display.{display_number}
use Rattle.session_plan.specs.Fault.{Fault, ◌>>=◌, bad_layout}
use Rattle.session_plan.specs.Keys.{key_of}
use Rattle.session_plan.specs.Plan.{DeviceData}
use Rattle.session_plan.specs.Reading.{required, of_kind, needs, or_default, as_list, coordinate, number_or, text_at, tables_at, at_most, each}

-- a path begins with a slash and has no blank
abbrev pub is_path : List ℕ → Bool
is_path [] = false
is_path (b ∷ bs) = b == 47 && list_all (λ c. not (c == 32 || c == 9)) bs

-- no device has the path
abbrev pub is_new : List DeviceData → List ℕ → Bool
is_new devices path = not (list_any (λ d. bytes_eq d.path path) devices)

-- the last number is not below the first
abbrev pub ordered : ℤ → ℤ → Option Span
ordered low high = if int_le low high then Some (record { min = low; max = high }) else None

-- both numbers where they are integers
abbrev pub both : Option ℤ → Option ℤ → Option Span
both (Some low) (Some high) = ordered low high
both _ _ = None

-- two integers, the least and the greatest raw position of an axis
abbrev pub span_of : List Data → Option Span
span_of (a ∷ b ∷ []) = both (as_integer a) (as_integer b)
span_of _ = None

-- the ends of an axis, where a value is an array
abbrev pub span_in : Option (List Data) → Option Span
span_in None = None
span_in (Some ds) = span_of ds

-- the axis at a key
unfoldable pub axis_at : ℕ → List ℕ → Data → Result Axis Fault
axis_at k key d = do
  found ← required (key_of (place.Device k) key) (get key d)
  span ← of_kind (key_of (place.Device k) key) (span_in (as_list found))
  min ← coordinate (key_of (place.Device k) key) span.min
  max ← coordinate (key_of (place.Device k) key) span.max
  Ok (record { min = min; max = max })

-- what touch device k is, of a session with so many displays
unfoldable pub touch_of : ℕ → ℕ → Data → Result DeviceKind Fault
touch_of displays k d = do
  display ← display_number displays (place.Device k) d
  slots ← number_or 10 (place.Device k) (codes "slots") (pos 1) (pos 16) d
  x ← axis_at k (codes "x") d
  y ← axis_at k (codes "y") d
  Ok (Touch slots x y display)

-- a device's keys by its layout, or why the layout is refused
abbrev pub with_layout : ℕ → Result Codes LayoutError → Result DeviceKind Fault
with_layout k (Ok layout) = Ok (Keys layout)
with_layout k (Err error) = Err (bad_layout k error)

-- the text of a layout, empty where there is none
abbrev pub layout_text : ℕ → Data → Result (List ℕ) Fault
layout_text k d = or_default [] (get (codes "layout") d) (λ found. of_kind (key_of (place.Device k) (codes "layout")) (as_str found))

-- what device k with keys is
unfoldable pub keys_of : ℕ → Data → Result DeviceKind Fault
keys_of k d = layout_text k d >>= λ text. with_layout k (layout_of text)

-- device k, behind these, of a session with so many displays
unfoldable pub device_of : ℕ → ℕ → List DeviceData → Data → Result DeviceData Fault
device_of displays k found d = do
  kind ← text_at (place.Device k) (codes "kind") d
  known ← needs (key_of (place.Device k) (codes "kind")) (bytes_eq kind (codes "touch") || bytes_eq kind (codes "keys"))
  path ← text_at (place.Device k) (codes "path") d
  fits ← needs (key_of (place.Device k) (codes "path")) (is_path path && is_new found path)
  told ← (if bytes_eq kind (codes "touch") then touch_of displays k d else keys_of k d)
  Ok (record { path = path; kind = told })

-- the devices of a document with so many displays
unfoldable pub devices_of : ℕ → Data → Result (List DeviceData) Fault
devices_of displays d = do
  ds ← tables_at place.Document (codes "device") d
  few ← at_most (key_of place.Document (codes "device")) 8 ds
  each (device_of displays) 1 [] ds
