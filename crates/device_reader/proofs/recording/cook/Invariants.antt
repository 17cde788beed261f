use Rattle.std.specs.Prelude.{◌≡◌, List, [], reverse, take}
use Rattle.device_reader.specs.Cooked.{DevicePlan}
use Rattle.device_reader.specs.CookedList.{cooked, AllStandFor, ReadersStandFor}
use Rattle.device_reader.proofs.recording.cook.Given as goal

-- the readers and the args are where they have to be after the events so far
abbrev pub invariant-loop-event : goal.invariant-loop-event
invariant-loop-event l = record {
  stand : (plans : List DevicePlan) → AllStandFor plans [] l.fn.readers.items → ReadersStandFor plans (reverse (take l.event-index l.events)) l.readers;
  all : (plans : List DevicePlan) → AllStandFor plans [] l.fn.readers.items → reverse l.given.items ≡ cooked plans (reverse (take l.event-index l.events));
}
