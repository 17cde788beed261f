-- How what a recording holds is spelled, line by line.
use Rattle.std.specs.Prelude.{codes, ℕ, List, [], ◌++◌, Option, Some, None}
use Rattle.std.specs.Fmt.{decimal}
use Rattle.recording_counts.specs.declared.events.EventCounts.{EventCounts}
use Rattle.recording_counts.specs.declared.key_tally.KeyCounts.{KeyCounts}
use Rattle.recording_counts.specs.declared.touch.TouchCounts.{TouchCounts}
use Rattle.recording_counts.specs.declared.moments.Span.{Span}

-- the lines of a recording by what they are: blank ones, those of another form, those of a device that is not in the session, and
-- those that give an event
abbrev pub lines_line : (lines blank other unknown events : ℕ) → List ℕ
lines_line lines blank other unknown events =
    codes "lines " ++ decimal lines ++ codes " blank " ++ decimal blank ++ codes " other " ++ decimal other ++ codes " unknown " ++ decimal unknown
    ++ codes " events " ++ decimal events ++ codes "\n"

-- the earliest and the latest moment, if there is one
abbrev pub moments_line : Option Span → List ℕ
moments_line None = []
moments_line (Some span) = codes "moments " ++ decimal span.first ++ codes " " ++ decimal span.last ++ codes "\n"

-- what is counted of every device
abbrev pub event_words : EventCounts → List ℕ
event_words c =
    codes " events " ++ decimal c.events ++ codes " used " ++ decimal c.used ++ codes " void " ++ decimal c.void ++ codes " drops " ++ decimal c.drops

-- what is counted of touch devices
abbrev pub touch_words : TouchCounts → List ℕ
touch_words c =
    codes " packets " ++ decimal c.packets ++ codes " fingers " ++ decimal c.fingers ++ codes " palms " ++ decimal c.palms
    ++ codes " clamped " ++ decimal c.clamped ++ codes " strayed " ++ decimal c.strayed

-- what is counted of devices with keys
abbrev pub key_words : KeyCounts → List ℕ
key_words c = codes " downs " ++ decimal c.downs ++ codes " unnamed " ++ decimal c.unnamed

-- a touch device, with the number of args that are its own
abbrev pub touch_line : (device : ℕ) → EventCounts → TouchCounts → (args : ℕ) → List ℕ
touch_line device events touches args =
    codes "device " ++ decimal device ++ codes " touch" ++ event_words events ++ touch_words touches ++ codes " args " ++ decimal args ++ codes "\n"

-- a device with keys, with the number of args that are its own
abbrev pub keys_line : (device : ℕ) → EventCounts → KeyCounts → (args : ℕ) → List ℕ
keys_line device events keys args =
    codes "device " ++ decimal device ++ codes " keys" ++ event_words events ++ key_words keys ++ codes " args " ++ decimal args ++ codes "\n"

-- a path that is not in the session, with how many lines have it
abbrev pub path_line : (path : List ℕ) → ℕ → List ℕ
path_line path times = codes "path " ++ path ++ codes " " ++ decimal times ++ codes "\n"

-- the steps, and how many of them are before the first moment, from there to the last, and after it
abbrev pub steps_line : (steps before within after : ℕ) → List ℕ
steps_line steps before within after =
    codes "steps " ++ decimal steps ++ codes " before " ++ decimal before ++ codes " within " ++ decimal within ++ codes " after " ++ decimal after ++ codes "\n"
