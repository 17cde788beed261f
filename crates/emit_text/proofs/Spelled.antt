-- What a stream file's messages contain: moments, ids and positions in their ranges.
use Rattle.std.proofs.Common.{◌≡◌, ℕ, zero, suc, ◌+◌, ◌<◌, ◌≤◌, nat_eq, Bool, true, false, if◌then◌else◌, ℤ, pos, negsuc, List, [], ◌∷◌, map, Option, Some, None, Result, Ok, Err, refl, arith}
use Rattle.std.specs.Int.{w32}
use Rattle.std.specs.Int.RustNames.{FitsSigned}
use Rattle.std.specs.List.{remove}
use Rattle.std.specs.Option.{option_map}
use Rattle.input_types.specs.declared.message.Body.{Body}
use Rattle.input_types.specs.declared.message.Body.TheVariants.{Motion, Key, Focus}
use Rattle.input_types.specs.declared.message.Message.{Message as Told}
use Rattle.input_types.specs.declared.motion.MotionAction.{MotionAction}
use Rattle.input_types.specs.declared.motion.MotionAction.TheVariants.{Down, Up, Move, Cancel, Outside, PointerDown, PointerUp}
use Rattle.input_types.specs.declared.pointer.Pointer.{Pointer}
use Rattle.stream_text.specs.declared.stream_line.StreamLine.{StreamLine}
use Rattle.stream_text.specs.declared.stream_line.StreamLine.TheVariants.{Channel, Message, End, Anr}
use Rattle.stream_text.specs.declared.reading.stream_lines.Place.{Place}
use Rattle.stream_text.specs.declared.reading.stream_lines.Place.TheVariants.{Between}
use Rattle.stream_text.specs.MessageLine.{HasSpelling, HavePlaces, SpelledBody}
use Rattle.stream_text.specs.Number.{◌>>=◌, IsI32}
use Rattle.stream_text.specs.OrderText.{order_passed}
use Rattle.stream_text.specs.StreamFile.{Event, Stream, events_behind, events_from, events_of, follow, may_end, messages_of, numbered_line, streams_of, told, with_event}
use Rattle.stream_text.specs.StreamLine.{line_of}
use Rattle.text_lines.specs.Lines.{Line, lines_of}
use Rattle.stream_text.proofs.LineTexts.{line_only}
use Rattle.touch_writer.specs.declared.want.Want.{Want}
use Rattle.touch_writer.specs.Places.{IsRising}
use Rattle.emit_text.specs.Emitted.{motions_of, section}
use Rattle.emit_text.specs.Motions.{Taken, contact, down_after, in_front, taken, wanted_after}
use Rattle.emit_text.proofs.Rising.{still_rise}

-- ---- the lines

abbrev IsSpelled : StreamLine → Type 0
IsSpelled (Message m) = HasSpelling m
IsSpelled _ = Unit {0}

abbrev AreSpelled : List Event → Type 0
AreSpelled [] = Unit {0}
AreSpelled (e ∷ es) = IsSpelled e.1 × AreSpelled es

abbrev Spell : Result (List Event) ℕ → Type 0
Spell (Ok es) = AreSpelled es
Spell (Err bad) = Unit {0}

spelled : (text : List ℕ) (says : StreamLine) → line_of text ≡ Some says → IsSpelled says
spelled text (Channel id) e = tt
spelled text (Message m) e = (line_only text (Message m) e).1
spelled text (End id sent received finished) e = tt
spelled text (Anr clock id seq) e = tt

one_line : (n : ℕ) (says : StreamLine) (r : Result (List Event) ℕ) → IsSpelled says → Spell r → Spell (with_event (n, says) r)
one_line n says (Ok es) s h = (s, h)
one_line n says (Err bad) s h = tt

followed : (n : ℕ) (says : StreamLine) (o : Option Place) (behind : Place → Result (List Event) ℕ) → IsSpelled says → ((next : Place) → Spell (behind next))
    → Spell (numbered_line n (o >>= λ next. Some (says, next)) behind)
followed n says None behind s h = tt
followed n says (Some next) behind s h = one_line n says (behind next) s (h next)

read : (place : Place) (n : ℕ) (text : List ℕ) (o : Option StreamLine) (behind : Place → Result (List Event) ℕ) → line_of text ≡ o → ((next : Place) → Spell (behind next))
    → Spell (numbered_line n (o >>= λ says. follow place says >>= λ next. Some (says, next)) behind)
read place n text None behind e h = tt
read place n text (Some says) behind e h = followed n says (follow place says) behind (spelled text says e) h

ended : (place : Place) (n : ℕ) (text : List ℕ) (b : Bool) (behind : Place → Result (List Event) ℕ) → ((next : Place) → Spell (behind next))
    → Spell (numbered_line n (told place (text, b)) behind)
ended place n text true behind h = read place n text (line_of text) behind refl h
ended place n text false behind h = tt

at_end : (n : ℕ) (b : Bool) → Spell (if b then Ok [] else Err n)
at_end n true = tt
at_end n false = tt

lines_spelled : (lines : List Line) (place : Place) (n : ℕ) → Spell (events_from place n lines)
lines_spelled [] place n = at_end n (may_end place)
lines_spelled (line ∷ lines) place n =
    ended place n line.0 line.1 (λ next. events_from next (n + 1) lines) (λ next. lines_spelled lines next (n + 1))

front_spelled : (front : Result (ℕ × List Line) ℕ) → Spell (events_behind front)
front_spelled (Ok front) = lines_spelled front.1 Between front.0
front_spelled (Err bad) = tt

file_spelled : (bytes : List ℕ) → Spell (events_of bytes)
unfolding events_of
file_spelled bytes = front_spelled (order_passed (lines_of bytes))

-- ---- the streams

abbrev AllSpelled : List Told → Type 0
AllSpelled [] = Unit {0}
AllSpelled (m ∷ ms) = HasSpelling m × AllSpelled ms

abbrev StreamsSpelled : List Stream → Type 0
StreamsSpelled [] = Unit {0}
StreamsSpelled (s ∷ ss) = AllSpelled s.messages × StreamsSpelled ss

messages_spelled : (es : List Event) → AreSpelled es → AllSpelled (messages_of es)
messages_spelled [] h = tt
messages_spelled ((n, Channel id) ∷ es) h = tt
messages_spelled ((n, Message m) ∷ es) h = (h.0, messages_spelled es h.1)
messages_spelled ((n, End id sent received finished) ∷ es) h = tt
messages_spelled ((n, Anr clock id seq) ∷ es) h = tt

streams_spelled : (es : List Event) → AreSpelled es → StreamsSpelled (streams_of es)
streams_spelled [] h = tt
streams_spelled ((n, Channel id) ∷ es) h = (messages_spelled es h.1, streams_spelled es h.1)
streams_spelled ((n, Message m) ∷ es) h = streams_spelled es h.1
streams_spelled ((n, End id sent received finished) ∷ es) h = streams_spelled es h.1
streams_spelled ((n, Anr clock id seq) ∷ es) h = streams_spelled es h.1

-- ---- the motions

pub record IsInRange (w : Want) : Type 0 where
  pub id : w.id < 32
  pub x : FitsSigned w32 w.x
  pub y : FitsSigned w32 w.y

abbrev pub AreInRange : List Want → Type 0
AreInRange [] = Unit {0}
AreInRange (w ∷ ws) = IsInRange w × AreInRange ws

pub record IsSent (t : Taken) : Type 0 where
  pub moment : t.moment ≤ 1000000000000000000
  pub rises : IsRising t.want
  pub in_range : AreInRange t.want

abbrev pub AreSent : List Taken → Type 0
AreSent [] = Unit {0}
AreSent (t ∷ ts) = IsSent t × AreSent ts

fits : (z : ℤ) → IsI32 z → FitsSigned w32 z
fits (pos n) h = record { sfits = omega (arith, h) }
fits (negsuc n) h = record { sfits = omega (arith, h) }

places_in_range : (least : ℕ) (ps : List Pointer) → HavePlaces least ps → AreInRange (map contact ps)
places_in_range least [] h = tt
places_in_range least (p ∷ ps) h =
    (record { id = omega (arith, h.1); x = fits p.at.x h.2; y = fits p.at.y h.3 }, places_in_range (p.id + 1) ps h.4)

places_rise : (least : ℕ) (ps : List Pointer) → HavePlaces least ps → IsRising (map contact ps)
places_rise least [] h = tt
places_rise least (p ∷ []) h = tt
places_rise least (p ∷ q ∷ ps) h = (omega (arith, h.4.0), places_rise (p.id + 1) (q ∷ ps) h.4)

still_in_range : (ws : List Want) (k : ℕ) → AreInRange ws → AreInRange (remove ws k)
still_in_range [] zero h = tt
still_in_range [] (suc k) h = tt
still_in_range (w ∷ ws) zero h = h.1
still_in_range (w ∷ ws) (suc k) h = (h.0, still_in_range ws k h.1)

abbrev Sends : Option (List Want) → Type 0
Sends None = Unit {0}
Sends (Some ws) = IsRising ws × AreInRange ws

down_sends : (action : MotionAction) (index : ℕ) (ws : List Want) → IsRising ws → AreInRange ws → Sends (down_after action index ws)
down_sends Down index ws r h = (r, h)
down_sends PointerDown index ws r h = (r, h)
down_sends Move index ws r h = (r, h)
down_sends PointerUp index ws r h = (still_rise ws index r, still_in_range ws index h)
down_sends Up index ws r h = (tt, tt)
down_sends Cancel index ws r h = (tt, tt)
down_sends Outside index ws r h = tt

of_device : (o : Option (List Want)) (b : Bool) → Sends o → Sends (if b then o else None)
of_device o true h = h
of_device o false h = tt

body_sends : (device : ℕ) (body : Body) → SpelledBody body → Sends (wanted_after device body)
body_sends device (Motion m) s =
    of_device (down_after m.action m.index (map contact m.pointers)) (nat_eq m.device device)
    (down_sends m.action m.index (map contact m.pointers) (places_rise 0 m.pointers s.places) (places_in_range 0 m.pointers s.places))
body_sends device (Key m) s = tt
body_sends device (Focus b) s = tt

in_front_sent : (line moment : ℕ) (o : Option (List Want)) (ts : List Taken) → moment ≤ 1000000000000000000 → Sends o → AreSent ts
    → AreSent (in_front (option_map (λ want. record { line = line; moment = moment; want = want }) o) ts)
in_front_sent line moment None ts late h told = told
in_front_sent line moment (Some ws) ts late h told = (record { moment = late; rises = h.0; in_range = h.1 }, told)

taken_sent : (device line : ℕ) (ms : List Told) → AllSpelled ms → AreSent (taken device line ms)
taken_sent device line [] h = tt
taken_sent device line (m ∷ ms) h =
    in_front_sent line m.moment (wanted_after device m.body) (taken device (line + 1) ms) h.0.moment (body_sends device m.body h.0.body)
    (taken_sent device (line + 1) ms h.1)

abbrev pub MotionsSent : Option (List Taken) → Type 0
MotionsSent None = Unit {0}
MotionsSent (Some ts) = AreSent ts

section_sent : (device : ℕ) (s : Stream) (o : Option Stream) (b : Bool) → AllSpelled s.messages
    → MotionsSent (option_map (λ s. taken device s.first_line s.messages) o)
    → MotionsSent (option_map (λ s. taken device s.first_line s.messages) (if b then Some s else o))
section_sent device s o true h rest = taken_sent device s.first_line s.messages h
section_sent device s o false h rest = rest

streams_sent : (channel device : ℕ) (ss : List Stream) → StreamsSpelled ss → MotionsSent (motions_of channel device ss)
streams_sent channel device [] h = tt
streams_sent channel device (s ∷ ss) h = section_sent device s (section channel ss) (nat_eq s.id channel) h.0 (streams_sent channel device ss h.1)

pub motions_sent : (bytes : List ℕ) (channel device : ℕ) (es : List Event) → events_of bytes ≡ Ok es → MotionsSent (motions_of channel device (streams_of es))
motions_sent bytes channel device es e =
    let s : Spell (events_of bytes) = file_spelled bytes in
    streams_sent channel device (streams_of es) (streams_spelled es (rw e at s))
