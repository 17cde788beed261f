use Rattle.std.proofs.Common.{◌++◌, List, take, reverse}
use Rattle.raw_events.specs.declared.event.RawEvent.{RawEvent}
use Rattle.device_reader.specs.Cooked.{DevicePlan}
use Rattle.recording_counts.specs.EventTally.{EventTallyStandsFor}
use Rattle.recording_counts.proofs.event_tally.EventTally.take_all.Given as goal

abbrev pub invariant-loop-event : goal.invariant-loop-event
invariant-loop-event l = (plans : List DevicePlan) (past : List RawEvent) → EventTallyStandsFor plans past l.fn.self
    → EventTallyStandsFor plans (reverse (take l.event-index l.events) ++ past) l.self
