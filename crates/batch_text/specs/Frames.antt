-- The calls of a batcher for the messages of a section. Lists of calls are newest first.
use Rattle.std.specs.Prelude.{ℕ, ◌-◌, ◌%◌, max, nat_lt, if◌then◌else◌, List, [], ◌∷◌}
use Rattle.input_types.specs.declared.message.Message.{Message}
use Rattle.motion_batch.specs.Calls.{Call, flushed, framed, taken}

-- the greatest moment of a message that was taken, 0 before the first
abbrev pub latest : List Call → ℕ
latest [] = 0
latest (taken m ∷ calls) = max m.moment (latest calls)
latest (framed at ∷ calls) = latest calls
latest (flushed ∷ calls) = latest calls

-- the moment of the last frame, 0 before the first
abbrev pub last_frame : List Call → ℕ
last_frame [] = 0
last_frame (taken m ∷ calls) = last_frame calls
last_frame (framed at ∷ calls) = at
last_frame (flushed ∷ calls) = last_frame calls

-- frames begin at the multiples of `frame`: this is the start of the one that contains a moment
abbrev pub frame_at : ℕ → ℕ → ℕ
frame_at frame moment = moment - moment % frame

-- a frame comes if its moment is above that of the last one
abbrev pub with_frame : ℕ → List Call → List Call
with_frame at calls = if nat_lt (last_frame calls) at then framed at ∷ calls else calls

-- a message at another moment
abbrev pub at_moment : ℕ → Message → Message
at_moment moment m = record { seq = m.seq; moment = moment; body = m.body }

-- a message is taken at a moment, after the frame that contains the moment
abbrev pub taken_at : ℕ → ℕ → Message → List Call → List Call
taken_at frame moment m calls = taken (at_moment moment m) ∷ with_frame (frame_at frame moment) calls

-- a message is taken at its moment, or at the latest earlier message's moment if that is later
abbrev pub with_message : ℕ → List Call → Message → List Call
with_message frame calls m = taken_at frame (max m.moment (latest calls)) m calls

-- the calls after these calls, for messages in their order
abbrev pub calls_from : ℕ → List Call → List Message → List Call
calls_from frame calls [] = calls
calls_from frame calls (m ∷ ms) = calls_from frame (with_message frame calls m) ms

-- the calls for a section: its messages, and at the end a flush
abbrev pub section_calls : ℕ → List Message → List Call
section_calls frame ms = flushed ∷ calls_from frame [] ms
