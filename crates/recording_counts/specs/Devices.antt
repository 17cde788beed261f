-- What is counted of the devices of a recording. Events stand with the newest first.
use Rattle.std.specs.Prelude.{◌≡◌, ℕ, ◌+◌, List, length, slice_get, Some}
use Rattle.raw_events.specs.declared.event.RawEvent.{RawEvent}
use Rattle.device_reader.specs.Cooked.{DevicePlan, Touches, Keys as HasKeys, device_args}
use Rattle.device_reader.specs.CookedList.{of_device}
use Rattle.recording_counts.specs.Counted.{counted}
use Rattle.recording_counts.specs.KeyTally.{KeysTallyStandsFor}
use Rattle.recording_counts.specs.Touch.{TouchTallyStandsFor}
use Rattle.recording_counts.specs.declared.device.DeviceTally.{DeviceTally}
use Rattle.recording_counts.specs.declared.device.TallyKind.{TallyKind}
use Rattle.recording_counts.specs.declared.device.TallyKind.TheVariants.{Touch, Keys}

-- the counts of a device by what it is are those of these events
abbrev pub KindCounted : DevicePlan → List RawEvent → TallyKind → Type 0
KindCounted (Touches plan) past (Touch t) = TouchTallyStandsFor plan past t
KindCounted (HasKeys plan) past (Keys t) = KeysTallyStandsFor (HasKeys plan) past t
KindCounted (Touches plan) past (Keys t) = ⊥
KindCounted (HasKeys plan) past (Touch t) = ⊥

-- and so is the number of entries that its reader gave
pub record DeviceCounted (plan : DevicePlan) (past : List RawEvent) (t : DeviceTally) : Type 0 where
  pub kind_counted : KindCounted plan past t.kind
  pub args_are : t.args ≡ counted (device_args plan past)

-- each device is counted by its own events
pub record AllCounted (plans : List DevicePlan) (past : List RawEvent) (tallies : List DeviceTally) : Type 0 where
  pub as_many : length tallies ≡ length plans
  pub each : (i : ℕ) (plan : DevicePlan) (t : DeviceTally) → slice_get plans i ≡ Some plan → slice_get tallies i ≡ Some t
      → DeviceCounted plan (of_device (i + 1) past) t
