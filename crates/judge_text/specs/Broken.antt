-- Which message of a stream file may not come where it stands, and why.
use Rattle.std.specs.Prelude.{ℕ, ◌+◌, List, [], ◌∷◌, Option, Some, None}
use Rattle.std.specs.Option.{option_and_then, option_map, option_or}
use Rattle.input_types.specs.declared.message.Message.{Message}
use Rattle.input_types.specs.StreamRule.{stream_state}
use Rattle.gesture_verifier.specs.declared.reason.Reason.{Reason}
use Rattle.gesture_verifier.specs.Reasons.{reason_of}
use Rattle.stream_text.specs.StreamFile.{Stream}

-- why a message may not come after those of `past`, newest first
abbrev pub reason_behind : List Message → Message → Option Reason
reason_behind past m = option_and_then (λ s. reason_of s m.body) (stream_state past)

-- The line of the first message that may not come, and why, of messages from line `line` on, after those of `past`.
abbrev pub broken_from : ℕ → List Message → List Message → Option (ℕ × Reason)
broken_from line past [] = None
broken_from line past (m ∷ ms) = option_or (option_map (λ why. (line, why)) (reason_behind past m)) (broken_from (line + 1) (m ∷ past) ms)

-- that of a file's streams: the first broken one counts
abbrev pub first_broken : List Stream → Option (ℕ × Reason)
first_broken [] = None
first_broken (s ∷ ss) = option_or (broken_from s.first_line [] s.messages) (first_broken ss)
