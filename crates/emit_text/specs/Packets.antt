-- The answer for the motions that are written.
use Rattle.std.specs.Prelude.{◌≡◌, ℕ, nat_eq, nat_lt, if◌then◌else◌, Bool, List, [], ◌∷◌, ◌++◌, codes, length, Option, Some, None, Result, Ok, Err}
use Rattle.std.specs.Option.{option_map}
use Rattle.raw_events.specs.declared.event.RawEvent.{RawEvent}
use Rattle.touch_writer.specs.State.{State, IsBestChoice, packet_of, after}
use Rattle.touch_writer.specs.Refusal.{refusal}
use Rattle.touch_writer_cooks.specs.Reading.{lines}
use Rattle.emit_text.specs.declared.error.EmitError.{EmitError}
use Rattle.emit_text.specs.declared.error.EmitError.TheVariants.{TooLate, TooLong}
use Rattle.emit_text.specs.Motions.{Taken}
use Rattle.emit_text.specs.Refusals.{packet_refusal}

-- the path of the device that is written
abbrev pub path : List ℕ
path = codes "/dev/input/event0"

-- why a motion is refused: it comes at a moment that no event of a recording has, or its packet is refused
abbrev pub refused : State → Taken → Option EmitError
refused s t = if nat_eq t.moment 1000000000000000000 then Some (TooLate t.line) else option_map (packet_refusal t.line) (refusal s t.want)

-- a text, if it is not too long
abbrev pub limited : List ℕ → Result (List ℕ) EmitError
limited text = if nat_lt 33554432 (length text) then Err TooLong else Ok text

-- the answer is the refusal, if there is one, and otherwise continues in this way
abbrev pub UnlessRefused : Option EmitError → Result (List ℕ) EmitError → Type 0 → Type 0
UnlessRefused None answer Goes = Goes
UnlessRefused (Some error) answer Goes = answer ≡ Err error

-- The answer for motions, from a writer on and after these events: the refusal of the first motion that is refused,
-- and otherwise the lines of all events. Each motion adds the packet of a best choice of slots.
abbrev pub Emits : State → List RawEvent → List Taken → Result (List ℕ) EmitError → Type 0
Emits s events [] answer = answer ≡ limited (lines path events)
Emits s events (t ∷ ts) answer =
    UnlessRefused (refused s t) answer
    ((choice : List Bool) × IsBestChoice s t.moment t.want choice × Emits (after s t.want choice) (events ++ packet_of s t.moment t.want choice) ts answer)
