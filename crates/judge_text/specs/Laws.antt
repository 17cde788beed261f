-- Proved facts about judging.
use Rattle.std.specs.Prelude.{◌≡◌, ℕ, not, true, List, Some, is_some, Result, Ok}
use Rattle.std.specs.Option.{option_map}
use Rattle.input_types.specs.declared.message.Message.{Message}
use Rattle.input_types.specs.StreamRule.{StreamState, after_body, stream_state}
use Rattle.gesture_verifier.specs.Held.{are_rising, is_held}
use Rattle.gesture_verifier.specs.Reasons.{reason_of}
use Rattle.stream_judge.specs.Breaks.{first_break}
use Rattle.stream_text.specs.MessageLine.{HasSpelling}
use Rattle.stream_text.specs.StreamFile.{Stream, events_of, streams_in}
use Rattle.judge_text.specs.Broken.{first_broken}
use Rattle.judge_text.specs.Down.{keys_after}

-- A message that a stream file can spell has a reason exactly if the rule for streams has no next state.
abbrev pub ReasonLaw : Type 0
ReasonLaw = (s : StreamState) (m : Message) → HasSpelling m → is_some (reason_of s m.body) ≡ not (is_some (after_body s m.body))

-- The message that is reported as broken is the first that the rule for streams does not allow. There is one exactly if the file is
-- not well-formed.
abbrev pub SameBreakLaw : Type 0
SameBreakLaw = (bytes : List ℕ) (streams : List Stream) → streams_in (events_of bytes) ≡ Ok streams → option_map (λ b. b.0) (first_broken streams) ≡ first_break streams

-- The keys that are reported as down rise, and are those of which a repeat is due.
abbrev pub KeysLaw : Type 0
KeysLaw = (past : List Message) (s : StreamState) → stream_state past ≡ Some s
    → (are_rising (keys_after past) ≡ true) × ((device scan : ℕ) → is_held device scan (keys_after past) ≡ is_some (s.repeats device scan))
