-- What a recording and a session contain. Lines and events are newest first.
use Rattle.std.specs.Prelude.{codes, ℕ, suc, nat_eq, nat_lt, Bool, false, true, not, ◌||◌, List, [], ◌∷◌, ◌++◌, length, filter, flat_map, take, Option, Some, None, if◌then◌else◌}
use Rattle.raw_events.specs.declared.event.RawEvent.{RawEvent}
use Rattle.raw_events.specs.Line.{Known}
use Rattle.device_reader.specs.Cooked.{DevicePlan, Touches, Keys, device_args}
use Rattle.device_reader.specs.CookedList.{of_device}
use Rattle.recording_counts.specs.Counted.{counted}
use Rattle.recording_counts.specs.Events.{event_counts, is_keys_used, is_touch_used}
use Rattle.recording_counts.specs.KeyTally.{key_counts}
use Rattle.recording_counts.specs.Lines.{is_blank_line, is_other_line, is_unknown_line, unknown_paths}
use Rattle.recording_counts.specs.Paths.{firsts, times}
use Rattle.recording_counts.specs.Touch.{ranges_of, touch_counts}
use Rattle.session_plan.specs.declared.plan.Step.{Step}
use Rattle.recording_counts.specs.declared.moments.Span.{Span}
use Rattle.recording_counts.specs.Moments.{span_of}
use Rattle.inspect_text.specs.CountedHints.{clock_hint, counts_hint, mark_hint}
use Rattle.inspect_text.specs.Hints.{hint_at, hint_line}
use Rattle.inspect_text.specs.Lines.{keys_line, lines_line, moments_line, path_line, steps_line, touch_line}

-- the lines by kind, if they give these events
abbrev pub lines_text : Known → List (List ℕ) → List RawEvent → List ℕ
lines_text devices lines events =
    lines_line (counted lines) (counted (filter (is_blank_line devices) lines)) (counted (filter (is_other_line devices) lines))
    (counted (filter (is_unknown_line devices) lines)) (counted events)

-- a device, by its own events
abbrev pub device_text : ℕ → DevicePlan → List RawEvent → List ℕ
device_text d (Touches plan) es =
    touch_line d (event_counts is_touch_used es) (touch_counts (ranges_of plan) es) (counted (device_args (Touches plan) es))
device_text d (Keys plan) es = keys_line d (event_counts is_keys_used es) (key_counts (device_args (Keys plan) es)) (counted (device_args (Keys plan) es))

-- the text about each device, from number d on, by its own events
abbrev pub each_device : (ℕ → DevicePlan → List RawEvent → List ℕ) → ℕ → List DevicePlan → List RawEvent → List ℕ
each_device told d [] events = []
each_device told d (plan ∷ plans) events = told d plan (of_device d events) ++ each_device told (suc d) plans events

-- the first eight different paths that are not in the session, with how many lines have each
abbrev pub paths_text : List (List ℕ) → List ℕ
paths_text paths = flat_map (λ p. path_line p (times p paths)) (take 8 (firsts paths))

-- a step is before the first moment of the events; all are if there is none
abbrev pub is_before : Option Span → Step → Bool
is_before None step = true
is_before (Some span) step = nat_lt step.at span.first

-- a step is after the last one
abbrev pub is_after : Option Span → Step → Bool
is_after None step = false
is_after (Some span) step = nat_lt span.last step.at

-- a step is neither
abbrev pub is_within : Option Span → Step → Bool
is_within span step = not (is_before span step || is_after span step)

-- the steps, against the moments of the events
abbrev pub steps_text : Option Span → List Step → List ℕ
steps_text span steps =
    steps_line (length steps) (length (filter (is_before span) steps)) (length (filter (is_within span) steps)) (length (filter (is_after span) steps))

-- the hint at a device
abbrev pub hint_text : ℕ → DevicePlan → List RawEvent → List ℕ
hint_text d plan es = hint_line d (hint_at plan es)

-- some steps come after all events
abbrev pub late_steps_hint : Option Span → List Step → List ℕ
late_steps_hint span steps = if nat_eq (length (filter (is_after span) steps)) 0 then [] else codes "hint steps after\n"

-- the session has no device
abbrev pub no_device_hint : List DevicePlan → List ℕ
no_device_hint [] = codes "hint no device\n"
no_device_hint (plan ∷ plans) = []

-- What the lines of a recording, the events that they give, and a session hold: its devices, its steps, and the lines of the keys
-- that nothing reads.
abbrev pub inspected : Known → List (List ℕ) → List DevicePlan → List RawEvent → List Step → (keys : List ℕ) → List ℕ
inspected devices lines plans events steps keys =
    let span = span_of events in
    lines_text devices lines events ++ moments_line span ++ each_device device_text 1 plans events ++ paths_text (unknown_paths devices lines)
    ++ steps_text span steps ++ keys ++ each_device hint_text 1 plans events ++ each_device counts_hint 1 plans events ++ clock_hint events
    ++ mark_hint lines ++ late_steps_hint span steps ++ no_device_hint plans
