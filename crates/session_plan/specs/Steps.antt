-- The steps of a session.
use Rattle.std.specs.Prelude.{ℕ, pos, codes, ◌||◌, Bool, if◌then◌else◌, List, [], Option, Some, None, Result, Ok}
use Rattle.std.specs.Str.{bytes_eq}
use Rattle.toml.specs.Data.{Data, get, as_str}
use Rattle.session_plan.specs.declared.key.Place.TheVariants as place
use Rattle.session_plan.specs.declared.plan.Act.{Act}
use Rattle.session_plan.specs.declared.plan.Act.TheVariants.{Windows, FocusOn, Pilfer, Remove}
use Rattle.session_plan.specs.declared.plan.Step.{Step}
use Rattle.session_plan.specs.Channels.{channel_named}
use Rattle.session_plan.specs.Display.{display_number}
use Rattle.session_plan.specs.Fault.{Fault, ◌>>=◌}
use Rattle.session_plan.specs.Keys.{key_of}
use Rattle.session_plan.specs.Order.{in_order}
use Rattle.session_plan.specs.Plan.{ChannelData}
use Rattle.session_plan.specs.Reading.{of_kind, needs, number_at, number_or, text_at, tables_at, each}
use Rattle.session_plan.specs.Windows.{windows_of}

-- the number of the channel that step k names
unfoldable pub channel_at : List ChannelData → ℕ → Data → Result ℕ Fault
channel_at channels k d = do
  name ← text_at (place.Step k) (codes "channel") d
  channel_named (key_of (place.Step k) (codes "channel")) channels name

-- the channel that gets the focus, or none where none is named
abbrev pub focused_channel : List ChannelData → ℕ → Option Data → Result (Option ℕ) Fault
focused_channel channels k None = Ok None
focused_channel channels k (Some found) = do
  name ← of_kind (key_of (place.Step k) (codes "channel")) (as_str found)
  channel ← channel_named (key_of (place.Step k) (codes "channel")) channels name
  Ok (Some channel)

-- a step that asks for the focus on a display, of a session with so many displays
unfoldable pub focus_of : List ChannelData → ℕ → ℕ → Data → Result Act Fault
focus_of channels displays k d = do
  display ← display_number displays (place.Step k) d
  channel ← focused_channel channels k (get (codes "channel") d)
  Ok (FocusOn display channel)

-- a step that takes pointers, of a session with so many devices
unfoldable pub pilfer_of : List ChannelData → ℕ → ℕ → Data → Result Act Fault
pilfer_of channels devices k d = do
  channel ← channel_at channels k d
  device ← number_at (place.Step k) (codes "device") (pos 1) (pos devices) d
  Ok (Pilfer channel device)

-- the words for what a step does
abbrev pub is_act : List ℕ → Bool
is_act word = bytes_eq word (codes "windows") || (bytes_eq word (codes "focus") || (bytes_eq word (codes "pilfer") || bytes_eq word (codes "remove")))

-- what step k does, of a session with so many devices and displays
unfoldable pub act_of : List ChannelData → ℕ → ℕ → ℕ → List ℕ → Data → Result Act Fault
act_of channels devices displays k word d =
    if bytes_eq word (codes "windows") then (windows_of channels displays k d >>= λ windows. Ok (Windows windows))
    else if bytes_eq word (codes "focus") then focus_of channels displays k d
    else if bytes_eq word (codes "pilfer") then pilfer_of channels devices k d
    else (channel_at channels k d >>= λ channel. Ok (Remove channel))

-- step k of a session with so many devices and displays
unfoldable pub step_of : List ChannelData → ℕ → ℕ → ℕ → Data → Result Step Fault
step_of channels devices displays k d = do
  at ← number_at (place.Step k) (codes "at_us") (pos 0) (pos 1000000000000000000) d
  lane ← number_or 1 (place.Step k) (codes "lane") (pos 1) (pos 8) d
  word ← text_at (place.Step k) (codes "do") d
  known ← needs (key_of (place.Step k) (codes "do")) (is_act word)
  act ← act_of channels devices displays k word d
  Ok (record { at = at; lane = lane; act = act })

-- the steps of a document with so many devices and displays, in the order in which they are taken
unfoldable pub steps_of : List ChannelData → ℕ → ℕ → Data → Result (List Step) Fault
steps_of channels devices displays d = do
  ds ← tables_at place.Document (codes "step") d
  steps ← each (λ k found e. step_of channels devices displays k e) 1 [] ds
  Ok (in_order steps)
