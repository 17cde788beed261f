-- A session as the plan of a run.
use Rattle.std.specs.Prelude.{ℕ, List, map, reverse, []}
use Rattle.input_types.specs.declared.message.Args.{Args}
use Rattle.raw_events.specs.declared.event.RawEvent.{RawEvent}
use Rattle.dispatch_history.specs.Plan.{Plan, Cooked}
use Rattle.session_plan.specs.DeviceDisplays.{device_displays}
use Rattle.session_plan.specs.Plan.{PlanData}
use Rattle.device_reader.specs.CookedList.{cooked}
use Rattle.replay_actors.specs.Session.{channel_of, step_of}
use Rattle.command_files.specs.Cooked.{plans_of}

-- args with their moment
abbrev pub cooked_of : ℕ × Args → Cooked
cooked_of g = record { moment = g.0; args = g.1 }

-- what the devices of a session give for these events, newest first
abbrev pub given : PlanData → List RawEvent → List Cooked
given p past = map cooked_of (reverse (cooked (plans_of p) past))

-- the plan of a session's run, whose args are not known yet: its devices on their displays, its channels with its
-- repeats, and its steps, up to its end
abbrev pub script_of : PlanData → Plan
script_of p =
    record {
      displays = device_displays p.devices;
      channels = map (channel_of p.repeats) p.channels;
      steps = map step_of p.steps;
      cooked = [];
      until = p.end;
    }

-- the plan of a session's run for these events, newest first
abbrev pub run_of : PlanData → List RawEvent → Plan
run_of p past = record (script_of p) { cooked = given p past }

-- the names of a session's channels
abbrev pub names_of : PlanData → List (List ℕ)
names_of p = map (λ c. c.name) p.channels
