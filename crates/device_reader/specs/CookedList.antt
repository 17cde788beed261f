-- What the dispatcher is given of all devices of a recording. Events and args stand with the newest first.
use Rattle.std.specs.Prelude.{◌≡◌, ℕ, zero, suc, ◌+◌, max, nat_eq, List, [], ◌∷◌, ◌++◌, length, map, reverse, filter, slice_get, Option, Some, None}
use Rattle.raw_events.specs.declared.event.RawEvent.{RawEvent}
use Rattle.input_types.specs.declared.message.Args.{Args}
use Rattle.device_reader.specs.Reading.{Reading}
use Rattle.device_reader.specs.All.{ReadersState}
use Rattle.device_reader.specs.Cooked.{DevicePlan, args_of, DeviceStandsFor}

-- the events of one device
abbrev pub of_device : ℕ → List RawEvent → List RawEvent
of_device d past = filter (λ e. nat_eq e.device d) past

-- what an event of a device adds, where that is known
abbrev pub added_by : Option DevicePlan → List RawEvent → RawEvent → List Args
added_by None past e = []
added_by (Some plan) past e = args_of plan (of_device e.device past) e

-- a device's plan: the devices stand in the order of their numbers, which begin at 1
abbrev pub plan_of : List DevicePlan → ℕ → Option DevicePlan
plan_of plans zero = None
plan_of plans (suc i) = slice_get plans i

-- what an event adds
abbrev pub added : List DevicePlan → List RawEvent → RawEvent → List Args
added plans past e = added_by (plan_of plans e.device) past e

-- the moment of the newest args, and 0 where there are none
abbrev pub latest : List (ℕ × Args) → ℕ
latest [] = 0
latest (g ∷ given) = g.0

-- all args with their moments: each has the greatest moment of the events that gave args up to it
abbrev pub cooked : List DevicePlan → List RawEvent → List (ℕ × Args)
cooked plans [] = []
cooked plans (e ∷ past) = reverse (map (λ a. (max (latest (cooked plans past)) e.moment, a)) (added plans past e)) ++ cooked plans past

-- the readers are where they have to be after a list of events
pub record AllStandFor (plans : List DevicePlan) (past : List RawEvent) (readers : List Reading) : Type 0 where
  pub as_many : length readers ≡ length plans
  pub each : (i : ℕ) (plan : DevicePlan) (r : Reading) → slice_get plans i ≡ Some plan → slice_get readers i ≡ Some r
      → DeviceStandsFor plan (of_device (i + 1) past) r

-- the readers of a recording are where they have to be: each after its device's events, and the moment is that of the
-- newest args
pub record ReadersStandFor (plans : List DevicePlan) (past : List RawEvent) (all : ReadersState) : Type 0 where
  pub readers_stand : AllStandFor plans past all.readers
  pub latest_is : all.latest ≡ latest (cooked plans past)
