-- What is counted of the events of a recording. Events stand with the newest first.
use Rattle.std.specs.Prelude.{◌≡◌, ℕ, List, Option}
use Rattle.raw_events.specs.declared.event.RawEvent.{RawEvent}
use Rattle.device_reader.specs.All.{ReadersState}
use Rattle.device_reader.specs.Cooked.{DevicePlan}
use Rattle.device_reader.specs.CookedList.{ReadersStandFor}
use Rattle.recording_counts.specs.Counted.{counted}
use Rattle.recording_counts.specs.declared.device.DeviceTally.{DeviceTally}
use Rattle.recording_counts.specs.declared.moments.Span.{Span}
use Rattle.recording_counts.specs.Devices.{AllCounted}
use Rattle.recording_counts.specs.Moments.{back_events, span_of}

-- what contracts see of a tally of events: the readers of the devices, the counts of each, from which moment to which they
-- are, how many they are, and at how many of them the clock went back
pub record EventsState : Type 0 where
  pub readers : ReadersState
  pub devices : List DeviceTally
  pub span : Option Span
  pub events : ℕ
  pub back : ℕ

-- the counts are those of these events
pub record EventTallyStandsFor (plans : List DevicePlan) (past : List RawEvent) (s : EventsState) : Type 0 where
  pub readers_stand : ReadersStandFor plans past s.readers
  pub devices_counted : AllCounted plans past s.devices
  pub span_is : s.span ≡ span_of past
  pub events_are : s.events ≡ counted past
  pub back_are : s.back ≡ counted (back_events past)
