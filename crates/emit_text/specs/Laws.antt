-- Laws of the answers.
use Rattle.std.specs.Prelude.{◌≡◌, ℕ, List, [], ◌∷◌, map, reverse, Some, Result, Ok}
use Rattle.device_reader.specs.PointerIds.PointerIds.{assigned, named_after}
use Rattle.raw_events.specs.Recording.{recorded}
use Rattle.stream_judge.specs.Judged.{judged}
use Rattle.stream_text.specs.StreamFile.{events_of, streams_in}
use Rattle.touch_writer.specs.declared.want.Want.{Want}
use Rattle.touch_writer_cooks.specs.Cooking.{Written, contacts_of, events_of as events_written, pointer}
use Rattle.emit_text.specs.declared.error.EmitError.{EmitError}
use Rattle.emit_text.specs.Emitted.{IsEmitted, motions_of}
use Rattle.emit_text.specs.Motions.{Taken}
use Rattle.emit_text.specs.Packets.{path}

-- There is exactly one answer for the bytes of a file, a channel and a device.
abbrev pub OneAnswerLaw : Type 0
OneAnswerLaw = (bytes : List ℕ) (channel device : ℕ) (one other : Result (List ℕ) EmitError) → IsEmitted bytes channel device one → IsEmitted bytes channel device other
    → one ≡ other

-- cooking assigns after each packet, newest first, the pointers that it was to produce
abbrev pub CookToWanted : ℕ → List Written → Type 0
CookToWanted device [] = Unit {0}
CookToWanted device (w ∷ past) = (assigned (named_after (contacts_of device 16 (w ∷ past))) ≡ map pointer w.want) × CookToWanted device past

-- what was wanted of packets, with their moments
abbrev pub wanted_of : List Written → List (ℕ × List Want)
wanted_of [] = []
wanted_of (w ∷ ws) = (w.moment, w.want) ∷ wanted_of ws

-- what is down after motions, with their moments
abbrev pub sent_by : List Taken → List (ℕ × List Want)
sent_by [] = []
sent_by (t ∷ ts) = (t.moment, t.want) ∷ sent_by ts

-- A recording of motions: a reader gets from it the events of packets, one for each motion at its moment, and cooking
-- assigns after each packet what is down after its motion.
pub record IsRecording (device : ℕ) (motions : List Taken) (text : List ℕ) : Type 0 where
  pub packets : List Written
  pub one_each : wanted_of packets ≡ reverse (sent_by motions)
  pub read : recorded ((path, device) ∷ []) text ≡ Ok (reverse (events_written device 16 packets))
  pub cooked : CookToWanted device packets

-- The resulting text is a recording of the motions to write.
abbrev pub RecordingLaw : Type 0
RecordingLaw = (bytes : List ℕ) (channel device : ℕ) (text : List ℕ) → IsEmitted bytes channel device (Ok text)
    → (motions : List Taken) × (judged (motions_of channel device) (streams_in (events_of bytes)) ≡ Ok (Some motions)) × IsRecording device motions text
