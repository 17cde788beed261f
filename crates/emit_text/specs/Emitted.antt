-- The recording of a channel's stream.
use Rattle.std.specs.Prelude.{◌≡◌, ℕ, nat_eq, if◌then◌else◌, List, [], ◌∷◌, Option, Some, None, Result, Ok, Err}
use Rattle.std.specs.Option.{option_map}
use Rattle.stream_judge.specs.declared.error.FileError.{FileError}
use Rattle.stream_judge.specs.Judged.{judged}
use Rattle.stream_text.specs.StreamFile.{Stream, events_of, streams_in}
use Rattle.touch_writer_cooks.specs.Cooking.{first}
use Rattle.emit_text.specs.declared.error.EmitError.{EmitError}
use Rattle.emit_text.specs.declared.error.EmitError.TheVariants.{NoChannel, Spent, Memory}
use Rattle.emit_text.specs.Motions.{Taken, taken}
use Rattle.emit_text.specs.Packets.{Emits}
use Rattle.emit_text.specs.Refusals.{file_refusal}

-- the first section of a channel
abbrev pub section : ℕ → List Stream → Option Stream
section channel [] = None
section channel (s ∷ ss) = if nat_eq s.id channel then Some s else section channel ss

-- the motions of a device that are written, in the first section of a channel
abbrev pub motions_of : ℕ → ℕ → List Stream → Option (List Taken)
motions_of channel device streams = option_map (λ s. taken device s.first_line s.messages) (section channel streams)

-- The answer for a device in a file that was judged: a refused file is refused in the same way, then one without the
-- channel, and otherwise the motions are written by a writer of 16 slots that wrote nothing.
abbrev pub AnswersFor : ℕ → Result (Option (List Taken)) FileError → Result (List ℕ) EmitError → Type 0
AnswersFor device (Err error) answer = answer ≡ Err (file_refusal error)
AnswersFor device (Ok None) answer = answer ≡ Err NoChannel
AnswersFor device (Ok (Some motions)) answer = Emits (first device 16) [] motions answer

-- The answer for the bytes of a stream file, a channel and a device: the lines of the packets, or why there are none.
abbrev pub IsEmitted : List ℕ → ℕ → ℕ → Result (List ℕ) EmitError → Type 0
IsEmitted bytes channel device answer = AnswersFor device (judged (motions_of channel device) (streams_in (events_of bytes))) answer

-- a refusal is the answer, or memory ran out
abbrev pub Refuses : (Result (List ℕ) EmitError → Type 0) → EmitError → Type 0
Refuses Is Memory = Unit {0}
Refuses Is error = Is (Err error)

-- a refusal other than running out of slots or tracking ids
abbrev pub IsNotSpent : EmitError → Type 0
IsNotSpent (Spent line) = ⊥
IsNotSpent _ = Unit {0}
