-- What holds of the numbers of the text.
use Rattle.std.specs.Prelude.{◌≡◌, ℕ, suc, ◌+◌, ◌<◌, List, [], ◌∷◌, length, filter, None}
use Rattle.raw_events.specs.declared.event.RawEvent.{RawEvent}
use Rattle.raw_events.specs.Line.{Known}
use Rattle.device_reader.specs.Cooked.{DevicePlan, Keys, KeysPlan, TouchPlan, Touches, device_args}
use Rattle.device_reader.specs.CookedList.{cooked, of_device}
use Rattle.recording_counts.specs.Lines.{AreRead, is_blank_line, is_event_line, is_other_line, is_unknown_line}
use Rattle.inspect_text.specs.Hints.{hint_at}

-- Each line of a recording that is not refused is blank, of another form, of a device that is not in the session, or gives an event, and
-- just one of these.
abbrev pub LinesLaw : Type 0
LinesLaw =
    (devices : Known) (lines : List (List ℕ)) → AreRead devices lines
    → length lines
    ≡ length (filter (is_blank_line devices) lines) + length (filter (is_other_line devices) lines) + length (filter (is_unknown_line devices) lines)
    + length (filter (is_event_line devices) lines)

-- how many args the devices from number d on have of their own
abbrev pub own_args : ℕ → List DevicePlan → List RawEvent → ℕ
own_args d [] events = 0
own_args d (plan ∷ plans) events = length (device_args plan (of_device d events)) + own_args (suc d) plans events

-- The args of the devices are all that is cooked.
abbrev pub ArgsLaw : Type 0
ArgsLaw = (plans : List DevicePlan) (events : List RawEvent) → own_args 1 plans events ≡ length (cooked plans events)

-- If there is no hint for a device with keys, some args of it are cooked.
abbrev pub KeysHintLaw : Type 0
KeysHintLaw = (plan : KeysPlan) (events : List RawEvent) → hint_at (Keys plan) events ≡ None → 0 < length (device_args (Keys plan) events)

-- If there is no hint for a touch device, some args of it are cooked.
abbrev pub TouchHintLaw : Type 0
TouchHintLaw = (plan : TouchPlan) (events : List RawEvent) → hint_at (Touches plan) events ≡ None → 0 < length (device_args (Touches plan) events)
