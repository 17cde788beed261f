-- What is counted of a device with keys. Events stand with the newest first.
use Rattle.std.specs.Prelude.{◌≡◌, ℕ, Bool, false, ◌&&◌, nat_eq, List, filter}
use Rattle.std.specs.BTreeSet.{contains}
use Rattle.std.specs.Ordering.{nat_cmp}
use Rattle.input_types.specs.declared.message.Args.{Args}
use Rattle.input_types.specs.declared.message.Args.TheVariants.{Key}
use Rattle.raw_events.specs.declared.event.RawEvent.{RawEvent}
use Rattle.raw_events.specs.Packets.{is_void}
use Rattle.key_mapper.specs.Key.{is_down}
use Rattle.device_reader.specs.Cooked.{DevicePlan, device_args}
use Rattle.device_reader.specs.Packets.{since_drop, key_events}
use Rattle.recording_counts.specs.Counted.{counted}
use Rattle.recording_counts.specs.Events.{event_counts, is_keys_used}
use Rattle.recording_counts.specs.declared.key_tally.KeyCounts.{KeyCounts}
use Rattle.recording_counts.specs.declared.key_tally.KeysTally.{KeysTally}

-- the args of a key that goes down
abbrev pub goes_down : Args → Bool
goes_down (Key k) = k.down
goes_down _ = false

-- the args of a key that goes down and whose scan code the layout gives no key code
abbrev pub is_unnamed : Args → Bool
is_unnamed (Key k) = k.down && nat_eq k.code 0
is_unnamed _ = false

-- what a device with keys counts of the args that it gave: the keys that go down, and those of them without a key code
abbrev pub key_counts : List Args → KeyCounts
key_counts args = record { downs = counted (filter goes_down args); unnamed = counted (filter is_unnamed args) }

-- the key of this scan code is down after the events of its device
abbrev pub is_down_at : List RawEvent → ℕ → Bool
is_down_at es scan = is_down scan (key_events (since_drop es))

-- the counts are those of these events of the device
pub record KeysTallyStandsFor (plan : DevicePlan) (past : List RawEvent) (t : KeysTally) : Type 0 where
  pub void_is : t.void ≡ is_void past
  pub down_are : (scan : ℕ) → contains nat_cmp t.down scan ≡ is_down_at past scan
  pub events_are : t.events ≡ event_counts is_keys_used past
  pub counts_are : t.counts ≡ key_counts (device_args plan past)
