-- The calls of a cursor for the steps of a session and the events of a mouse. Lists of calls and of events are newest
-- first, lists of steps in order.
use Rattle.std.specs.Prelude.{ℕ, nat_le, if◌then◌else◌, List, [], ◌∷◌, ◌++◌, Option, Some, None}
use Rattle.raw_events.specs.declared.event.RawEvent.{RawEvent}
use Rattle.session_plan.specs.declared.plan.Act.{Act}
use Rattle.session_plan.specs.declared.plan.Act.TheVariants as acts
use Rattle.session_plan.specs.declared.plan.Step.{Step}
use Rattle.cursor_core.specs.declared.call.CursorCall.{CursorCall}
use Rattle.cursor_core.specs.declared.call.CursorCall.TheVariants.{Windows, Remove}
use Rattle.cursor_core.specs.Calls.{moment_of}
use Rattle.cursor_core.specs.Packets.{motion_of}

-- the call of an act at a moment: showing windows and removing a channel are calls, and a focus and a pilfer are not
abbrev pub act_calls : ℕ → Act → List CursorCall
act_calls at (acts.Windows snapshot) = Windows at snapshot ∷ []
act_calls at (acts.FocusOn display channel) = []
act_calls at (acts.Pilfer channel device) = []
act_calls at (acts.Remove channel) = Remove at channel ∷ []

-- the calls of steps
abbrev pub step_calls : List Step → List CursorCall
step_calls [] = []
step_calls (s ∷ ss) = step_calls ss ++ act_calls s.at s.act

-- a motion inserted among other calls, in rising moment: after all calls at its moment or earlier, and before all
-- later ones
abbrev pub placed : CursorCall → List CursorCall → List CursorCall
placed motion [] = motion ∷ []
placed motion (c ∷ cs) = if nat_le (moment_of c) (moment_of motion) then motion ∷ c ∷ cs else c ∷ placed motion cs

-- the calls with a motion, if there is one
abbrev pub with_motion : Option CursorCall → List CursorCall → List CursorCall
with_motion None calls = calls
with_motion (Some motion) calls = placed motion calls

-- all calls of a session: those of its steps, and among them the motion of each packet of these events
abbrev pub calls_of : List Step → List RawEvent → List CursorCall
calls_of steps [] = step_calls steps
calls_of steps (e ∷ past) = with_motion (motion_of past e) (calls_of steps past)
