-- How the bytes of a session file say a plan.
use Rattle.std.specs.Prelude.{ℕ, pos, codes, List, length, Result, Ok}
use Rattle.toml.specs.Data.{Data}
use Rattle.session_plan.specs.declared.key.Place.TheVariants as place
use Rattle.session_plan.specs.Channels.{channels_of}
use Rattle.session_plan.specs.Devices.{devices_of}
use Rattle.session_plan.specs.Display.{displays_of}
use Rattle.session_plan.specs.Fault.{Fault, ◌>>=◌}
use Rattle.session_plan.specs.Plan.{PlanData}
use Rattle.session_plan.specs.Reading.{parsed, document_of, number_or}
use Rattle.session_plan.specs.Repeats.{repeats_at}
use Rattle.session_plan.specs.Steps.{steps_of}

-- the plan of a document
unfoldable pub plan_of : Data → Result PlanData Fault
plan_of d = do
  displays ← displays_of d
  end ← number_or 0 place.Document (codes "end_us") (pos 0) (pos 1000000000000000000) d
  repeats ← repeats_at d
  devices ← devices_of (length displays) d
  channels ← channels_of d
  steps ← steps_of channels (length devices) (length displays) d
  Ok (record { displays = displays; devices = devices; channels = channels; steps = steps; end = end; repeats = repeats })

-- the plan of the bytes of a session file, or the first refusal
unfoldable pub session_of : List ℕ → Result PlanData Fault
session_of bytes = document_of (parsed bytes) >>= plan_of
