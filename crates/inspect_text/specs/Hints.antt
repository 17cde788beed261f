-- What looks as if it was not meant so.
use Rattle.std.specs.Prelude.{codes, ◌≡◌, ℕ, zero, suc, nat_eq, Bool, not, ◌&&◌, List, [], ◌∷◌, ◌++◌, map, filter, flat_map, Option, Some, None, if◌then◌else◌}
use Rattle.std.specs.Fmt.{decimal}
use Rattle.std.specs.Option.{option_or}
use Rattle.raw_events.specs.declared.event.RawEvent.{RawEvent}
use Rattle.device_reader.specs.Cooked.{DevicePlan, Touches, Keys, device_args}
use Rattle.recording_counts.specs.declared.events.EventCounts.{EventCounts}
use Rattle.recording_counts.specs.declared.key_tally.KeyCounts.{KeyCounts}
use Rattle.recording_counts.specs.declared.touch.TouchCounts.{TouchCounts}
use Rattle.recording_counts.specs.Events.{event_counts, is_keys_used, is_touch_used}
use Rattle.recording_counts.specs.KeyTally.{is_down_at, key_counts}
use Rattle.recording_counts.specs.Touch.{held_at, ranges_of, touch_counts}

-- numbers joined by commas
abbrev pub joined : List ℕ → List ℕ
joined [] = []
joined (n ∷ []) = decimal n
joined (n ∷ m ∷ ns) = decimal n ++ codes "," ++ joined (m ∷ ns)

-- each number after a comma
abbrev pub behind_commas : List ℕ → List ℕ
behind_commas ns = flat_map (λ n. codes "," ++ decimal n) ns

-- pointers or keys are still down at the end, if there are some
abbrev pub still_down : List ℕ → Option (List ℕ)
still_down [] = None
still_down (n ∷ ns) = Some (codes "still down " ++ joined (n ∷ ns))

-- the hint about the events of a touch device: there are none; there are positions of a single touch and none of
-- contacts; contacts use protocol A; no packet has a finger
abbrev pub touch_word : EventCounts → TouchCounts → Option (List ℕ)
touch_word events touches =
    if nat_eq events.events 0 then Some (codes "silent")
    else if touches.single && not touches.placed then Some (codes "single touch")
    else if touches.protocol_a then Some (codes "protocol A")
    else if nat_eq touches.fingers 0 then Some (codes "no fingers")
    else None

-- what is hinted of those of a device with keys: there is none, or no key goes down
abbrev pub keys_word : EventCounts → KeyCounts → Option (List ℕ)
keys_word events keys = if nat_eq events.events 0 then Some (codes "silent") else if nat_eq keys.downs 0 then Some (codes "no keys") else None

-- the numbers below n
unfoldable pub below : ℕ → List ℕ
below zero = []
below (suc n) = below n ++ n ∷ []

-- the scan codes that are down at the end, in rising order; there are 65536
abbrev pub scans_down : List RawEvent → List ℕ
scans_down es = filter (is_down_at es) (below 65536)

-- the hint at a device with these events of its own: one of its events, else what is still down
abbrev pub hint_at : DevicePlan → List RawEvent → Option (List ℕ)
hint_at (Touches plan) es =
    option_or (touch_word (event_counts is_touch_used es) (touch_counts (ranges_of plan) es)) (still_down (map (λ h. h.id) (held_at plan.slots es)))
hint_at (Keys plan) es = option_or (keys_word (event_counts is_keys_used es) (key_counts (device_args (Keys plan) es))) (still_down (scans_down es))

-- the front of the line of a hint
abbrev pub hint_front : (device : ℕ) → List ℕ
hint_front device = codes "hint device " ++ decimal device ++ codes " "

-- the line of a hint
abbrev pub hint_line : (device : ℕ) → Option (List ℕ) → List ℕ
hint_line device None = []
hint_line device (Some words) = hint_front device ++ words ++ codes "\n"

-- a scan code after those already printed: the first one begins the line
abbrev pub scan_words : (device : ℕ) → (is_first : Bool) → ℕ → List ℕ
scan_words device is_first scan = if is_first then hint_front device ++ codes "still down " ++ decimal scan else codes "," ++ decimal scan

-- a scan code is printed if it is down, and then the line has begun
pub record GoesOn (device : ℕ) (es : List RawEvent) (scan : ℕ) (is_first : Bool) (old : List ℕ) (later : Bool) (new : List ℕ) : Type 0 where
  pub text_is : new ≡ old ++ (if is_down_at es scan then scan_words device is_first scan else [])
  pub first_is : later ≡ (is_first && not (is_down_at es scan))
