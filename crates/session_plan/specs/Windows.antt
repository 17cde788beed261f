-- The windows of a step.
use Rattle.std.specs.Prelude.{ℕ, codes, pos, not, Bool, false, if◌then◌else◌, List, [], Option, Some, None, is_some, unwrap_or, Result, Ok}
use Rattle.toml.specs.Data.{Data, get, as_bool}
use Rattle.window_snapshot.specs.declared.window.Window.{Window}
use Rattle.window_snapshot.specs.Named.{is_named}
use Rattle.window_snapshot.specs.Walls.{wall_on}
use Rattle.session_plan.specs.declared.key.Place.{Place}
use Rattle.session_plan.specs.declared.key.Place.TheVariants as place
use Rattle.session_plan.specs.Channels.{channel_named}
use Rattle.session_plan.specs.Display.{display_number}
use Rattle.session_plan.specs.Fault.{Fault, ◌>>=◌}
use Rattle.session_plan.specs.Flags.{bits_for}
use Rattle.session_plan.specs.Keys.{key_of}
use Rattle.session_plan.specs.Plan.{ChannelData}
use Rattle.session_plan.specs.Reading.{required, of_kind, needs, or_default, number_or, text_at, tables, at_most, each}
use Rattle.session_plan.specs.Rectangles.{rect_of, region_at}
use Rattle.session_plan.specs.Trust.{occlusion_at}

-- whether a window is a wall, which is of nobody
unfoldable pub wall_at : Place → Data → Result Bool Fault
wall_at place d = or_default false (get (codes "wall") d) (λ v. of_kind (key_of place (codes "wall")) (as_bool v))

-- no channel stands in the table of a wall
unfoldable pub no_channel : Place → Data → Result (Option ℕ) Fault
no_channel place d = do
  absent ← needs (key_of place (codes "channel")) (not (is_some (get (codes "channel") d)))
  Ok None

-- the channel of a window, which none of these windows has
unfoldable pub new_channel : List ChannelData → Place → List Window → Data → Result (Option ℕ) Fault
new_channel channels place found d = do
  name ← text_at place (codes "channel") d
  channel ← channel_named (key_of place (codes "channel")) channels name
  new ← needs (key_of place (codes "channel")) (not (is_named found channel))
  Ok (Some channel)

-- the channel of a window; a wall has none
abbrev pub window_channel : List ChannelData → Place → List Window → (wall : Bool) → Data → Result (Option ℕ) Fault
window_channel channels place found wall d = if wall then no_channel place d else new_channel channels place found d

-- a window of a step, behind these, of a session with so many displays; a wall has the number of its display's walls in place of a
-- channel
unfoldable pub window_of : List ChannelData → ℕ → Place → List Window → Data → Result Window Fault
window_of channels displays place found d = do
  wall ← wall_at place d
  channel ← window_channel channels place found wall d
  display ← display_number displays place d
  there ← required (key_of place (codes "frame")) (get (codes "frame") d)
  frame ← rect_of (key_of place (codes "frame")) there
  region ← region_at place frame d
  bits ← bits_for place wall d
  owner ← number_or 0 place (codes "owner") (pos 0) (pos 4294967295) d
  opacity ← number_or 100 place (codes "opacity") (pos 0) (pos 100) d
  occlusion ← occlusion_at place d
  Ok (record {
    channel = unwrap_or channel (wall_on display);
    display = display;
    frame = frame;
    region = region;
    flags = record { bits = bits };
    owner = owner;
    opacity = opacity;
    occlusion = occlusion;
  })

-- the windows of step k, front to back, of a session with so many displays
unfoldable pub windows_of : List ChannelData → ℕ → ℕ → Data → Result (List Window) Fault
windows_of channels displays k d = do
  there ← required (key_of (place.Step k) (codes "windows")) (get (codes "windows") d)
  ds ← tables (key_of (place.Step k) (codes "windows")) there
  few ← at_most (key_of (place.Step k) (codes "windows")) 64 ds
  each (λ j found e. window_of channels displays (place.Window k j) found e) 1 [] ds
