-- What each lane of a race has done when it ends.
use Rattle.std.specs.Prelude.{◌≡◌, ◌<◌, ◌≤◌, ℕ, List, map, reverse}
use Rattle.dispatch_calls.specs.declared.call.Call.{Call}
use Rattle.window_snapshot.specs.Mask.{mask_has}
use Rattle.session_plan.specs.declared.plan.Step.{Step}
use Rattle.replay_actors.specs.Session.{call_of}
use Rattle.replay_actors.specs.Lanes.{Own, calls_made, notifies, pumping, pumps, receiving, receives}
use Rattle.replay_actors.specs.declared.part.Part.{Part}
use Rattle.replay_actors.specs.declared.part.Part.TheVariants.{Reader, Dispatcher, Script, Application}

-- the calls of some steps
abbrev pub calls_of : List Step → List Call
calls_of steps = map (λ s. call_of s.at s.act) steps

-- these are all calls of a lane, newest first: a reader hands in all its args, a script makes all its steps, the dispatcher pumps until
-- 16,384 idle answers, and an application receives until 16,384 answers without a message
abbrev pub Did : Part → List Own → Type 0
Did (Reader cooked) own = calls_made own ≡ reverse (notifies cooked.items)
Did Dispatcher own = pumping own ≡ pumps 16384
Did (Script lane steps) own = calls_made own ≡ reverse (calls_of steps.items)
Did (Application o) own = (c : ℕ) × (receiving (mask_has o.finishing) o.channels o.number own ≡ receives 16384 c)

-- there are at most 64 channels, dealt to at most four applications
abbrev pub IsPart : Part → Type 0
IsPart (Reader cooked) = Unit {0}
IsPart Dispatcher = Unit {0}
IsPart (Script lane steps) = Unit {0}
IsPart (Application o) = (o.channels ≤ 64) × (o.number < 4)
