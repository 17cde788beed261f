-- The text about a device, by its kind.
use Rattle.std.proofs.Common.{◌≡◌, ℕ, List, ap, ap₂, ◌∙◌}
use Rattle.raw_events.specs.declared.event.RawEvent.{RawEvent}
use Rattle.device_reader.specs.Cooked.{DevicePlan, TouchPlan, KeysPlan, Touches, Keys as HasKeys, device_args}
use Rattle.recording_counts.specs.Counted.{counted}
use Rattle.recording_counts.specs.Events.{event_counts, is_keys_used, is_touch_used}
use Rattle.recording_counts.specs.KeyTally.{KeysTallyStandsFor, key_counts}
use Rattle.recording_counts.specs.Touch.{TouchTallyStandsFor, ranges_of, touch_counts}
use Rattle.recording_counts.specs.declared.events.EventCounts.{EventCounts}
use Rattle.recording_counts.specs.declared.key_tally.KeyCounts.{KeyCounts}
use Rattle.recording_counts.specs.declared.key_tally.KeysTally.{KeysTally}
use Rattle.recording_counts.specs.declared.touch.TouchCounts.{TouchCounts}
use Rattle.recording_counts.specs.declared.touch.TouchTally.{TouchTally}
use Rattle.recording_counts.specs.declared.device.TallyKind.TheVariants.{Touch, Keys}
use Rattle.recording_counts.specs.Devices.{KindCounted}
use Rattle.inspect_text.specs.Inspected.{device_text, hint_text}
use Rattle.inspect_text.specs.Lines.{keys_line, touch_line}

-- the line of a touch device
pub touch_told : (plan : DevicePlan) (past : List RawEvent) (d args : ℕ) (t : TouchTally) (e : EventCounts) (c : TouchCounts)
    → KindCounted plan past (Touch t) → ((p : TouchPlan) → TouchTallyStandsFor p past t → e ≡ event_counts is_touch_used past)
    → ((p : TouchPlan) → TouchTallyStandsFor p past t → c ≡ touch_counts (ranges_of p) past) → args ≡ counted (device_args plan past)
    → touch_line d e c args ≡ device_text d plan past
touch_told (Touches p) past d args t e c stands events touches own =
    ap₂ (λ x y. touch_line d x y args) (events p stands) (touches p stands) ∙ ap (touch_line d (event_counts is_touch_used past) (touch_counts (ranges_of p) past)) own
touch_told (HasKeys p) past d args t e c stands events touches own = absurd stands

-- the line of a device with keys
pub keys_told : (plan : DevicePlan) (past : List RawEvent) (d args : ℕ) (t : KeysTally) (e : EventCounts) (c : KeyCounts)
    → KindCounted plan past (Keys t) → ((p : DevicePlan) → KeysTallyStandsFor p past t → e ≡ event_counts is_keys_used past)
    → ((p : DevicePlan) → KeysTallyStandsFor p past t → c ≡ key_counts (device_args p past)) → args ≡ counted (device_args plan past)
    → keys_line d e c args ≡ device_text d plan past
keys_told (Touches p) past d args t e c stands events keys own = absurd stands
keys_told (HasKeys p) past d args t e c stands events keys own =
    ap₂ (λ x y. keys_line d x y args) (events (HasKeys p) stands) (keys (HasKeys p) stands)
    ∙ ap (keys_line d (event_counts is_keys_used past) (key_counts (device_args (HasKeys p) past))) own

-- the hint at a touch device
pub touch_hinted : (plan : DevicePlan) (past : List RawEvent) (d : ℕ) (t : TouchTally) (text : List ℕ) → KindCounted plan past (Touch t)
    → ((p : TouchPlan) → TouchTallyStandsFor p past t → text ≡ hint_text d (Touches p) past) → text ≡ hint_text d plan past
touch_hinted (Touches p) past d t text stands told = told p stands
touch_hinted (HasKeys p) past d t text stands told = absurd stands

-- the hint at a device with keys
pub keys_hinted : (plan : DevicePlan) (past : List RawEvent) (d : ℕ) (t : KeysTally) (text : List ℕ) → KindCounted plan past (Keys t)
    → ((p : KeysPlan) → KeysTallyStandsFor (HasKeys p) past t → text ≡ hint_text d (HasKeys p) past) → text ≡ hint_text d plan past
keys_hinted (Touches p) past d t text stands told = absurd stands
keys_hinted (HasKeys p) past d t text stands told = told p stands
