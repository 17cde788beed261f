-- The resulting text is a recording of the motions.
use Rattle.std.specs.Prelude.{codes}
use Rattle.std.proofs.Common.{◌≡◌, ℕ, ◌+◌, ◌<◌, ◌≤◌, nat_eq, nat_lt, Bool, true, false, if◌then◌else◌, List, [], ◌∷◌, ◌++◌, length, reverse, Option, Some, None, Result, Ok, Err, refl, sym, ap, subst, ◌∙◌, arith}
use Rattle.std.proofs.lemmas.Bool.{ltb-false, eqb-false}
use Rattle.std.proofs.lemmas.List.{append-nil, append_assoc, reverse-append, reverse-reverse}
use Rattle.std.specs.Option.{option_map}
use Rattle.raw_events.specs.declared.event.RawEvent.{RawEvent}
use Rattle.raw_events.specs.Recording.{recorded}
use Rattle.stream_judge.specs.Breaks.{first_break}
use Rattle.stream_judge.specs.Judged.{judged, unless_broken}
use Rattle.stream_judge.specs.declared.error.FileError.{FileError}
use Rattle.stream_text.specs.StreamFile.{Event, events_of, streams_in, streams_of}
use Rattle.touch_writer.specs.declared.error.WriteError.{WriteError}
use Rattle.touch_writer.specs.declared.error.WriteError.TheVariants.{TooMany}
use Rattle.touch_writer.specs.declared.want.Want.{Want}
use Rattle.touch_writer.specs.Places.{news}
use Rattle.touch_writer.specs.Refusal.{id_or_spent, refusal, unassignable}
use Rattle.touch_writer.specs.State.{State, IsBestChoice, after, packet_of, places_after}
use Rattle.touch_writer.proofs.Placed.{placed_length}
use Rattle.touch_writer_cooks.specs.Cooking.{AreIds, MayWrite, MayWriteAll, Written, first, writer_after, events_of as events_written}
use Rattle.touch_writer_cooks.specs.Reading.{AreEventsOf, IsPath, lines}
use Rattle.touch_writer_cooks.proofs.Cooks.{cooking}
use Rattle.touch_writer_cooks.proofs.ReadBack.{reading}
use Rattle.emit_text.specs.declared.error.EmitError.{EmitError}
use Rattle.emit_text.specs.declared.error.EmitError.TheVariants.{TooLate, TooLong}
use Rattle.emit_text.specs.Emitted.{AnswersFor, motions_of}
use Rattle.emit_text.specs.Laws.{CookToWanted, IsRecording, RecordingLaw, sent_by, wanted_of}
use Rattle.emit_text.specs.Motions.{Taken}
use Rattle.emit_text.specs.Packets.{Emits, UnlessRefused, path, refused}
use Rattle.emit_text.specs.Refusals.{packet_refusal}
use Rattle.emit_text.proofs.InRange.{AreFit, all_fit, events_of_device, packet_of_device, vacant_fit}
use Rattle.emit_text.proofs.Spelled.{AreInRange, AreSent, IsSent, MotionsSent, motions_sent}

-- ---- a motion that is not refused

not_late : (late : EmitError) (rest : Option EmitError) (b : Bool) → (if b then Some late else rest) ≡ None → (b ≡ false) × (rest ≡ None)
not_late late rest true e = absurd (cc)
not_late late rest false e = (refl, e)

none_of : (line : ℕ) (o : Option WriteError) → option_map (packet_refusal line) o ≡ None → o ≡ None
none_of line None e = refl
none_of line (Some error) e = absurd (cc)

not_spent : (o : Option ℕ) (b : Bool) → id_or_spent o b ≡ None → b ≡ false
not_spent (Some id) b e = absurd (cc)
not_spent None true e = absurd (cc)
not_spent None false e = refl

not_many : (o : Option ℕ) (b many : Bool) → (if many then Some TooMany else id_or_spent o b) ≡ None → b ≡ false
not_many o b true e = absurd (cc)
not_many o b false e = not_spent o b e

ids_left : (s : State) (want : List Want) → refusal s want ≡ None → s.used + length (news s.places want) ≤ 2147483647
ids_left s want e =
    ltb-false 2147483647 (s.used + length (news s.places want))
    (not_many (unassignable s.places (length (news s.places want)) want) (nat_lt 2147483647 (s.used + length (news s.places want)))
    (nat_lt (length s.places) (length want)) e)

-- the text continues if a motion is not refused
goes_on : (o : Option EmitError) (text : List ℕ) (Goes : Type 0) → UnlessRefused o (Ok text) Goes → (o ≡ None) × Goes
goes_on None text Goes h = (refl, h)
goes_on (Some error) text Goes h = absurd (cc)

-- ---- the packets so far

are_ids : (ws : List Want) → AreInRange ws → AreIds ws
are_ids [] h = tt
are_ids (w ∷ ws) h = (h.0.id, are_ids ws h.1)

-- these packets were written, the newest of which is the first
record Past (device : ℕ) (past : List Written) (s : State) (events : List RawEvent) : Type 0 where
  writer : s ≡ writer_after device 16 past
  events_are : events ≡ reverse (events_written device 16 past)
  may : MayWriteAll device 16 past
  slots : length s.places ≡ 16
  fit : AreFit s.places
  device_is : s.device ≡ device
  of_device : AreEventsOf ((path, device) ∷ []) path events

nothing : (device : ℕ) → Past device [] (first device 16) []
nothing device = record {
  writer = refl;
  events_are = refl;
  may = tt;
  slots = refl;
  fit = vacant_fit 16;
  device_is = refl;
  of_device = tt;
}

one_more : (device : ℕ) (past : List Written) (s : State) (events : List RawEvent) (t : Taken) (choice : List Bool) → IsSent t → Past device past s events
    → refused s t ≡ None → IsBestChoice s t.moment t.want choice
    → Past device (record { moment = t.moment; want = t.want; choice = choice } ∷ past) (after s t.want choice) (events ++ packet_of s t.moment t.want choice)
one_more device past s events t choice told p none best =
    let (early, taken) = not_late (TooLate t.line) (option_map (packet_refusal t.line) (refusal s t.want)) (nat_eq t.moment 1000000000000000000) none in
    let may_be : refusal s t.want ≡ None = none_of t.line (refusal s t.want) taken in
    let apart : t.moment ≡ 1000000000000000000 → ⊥ = eqb-false t.moment 1000000000000000000 early in
    let lt : t.moment < 1000000000000000000 = omega (arith, told.moment, apart) in
    let fit : AreFit (places_after s t.want choice) = all_fit t.want s.places choice s.used told.in_range p.fit (ids_left s t.want may_be) in
    let packet : List RawEvent = packet_of s t.moment t.want choice in
    let may_write : MayWrite s (record { moment = t.moment; want = t.want; choice = choice })
    = record { rises = told.rises; ids = are_ids t.want told.in_range; taken = may_be; choice = best.is } in
    record {
      writer = ap (λ (w : State). after w t.want choice) p.writer;
      events_are = ap (λ es. es ++ packet) p.events_are
          ∙ ap (λ es. reverse (events_written device 16 past) ++ es) (sym (reverse-reverse packet))
          ∙ sym (reverse-append (reverse packet) (events_written device 16 past))
          ∙ ap (λ (w : State). reverse (reverse (packet_of w t.moment t.want choice) ++ events_written device 16 past)) p.writer;
      may = (subst (λ (w : State). MayWrite w (record { moment = t.moment; want = t.want; choice = choice })) p.writer may_write, p.may);
      slots = placed_length t.want s.places choice (news s.places t.want) s.used ∙ p.slots;
      fit = fit;
      device_is = p.device_is;
      of_device = events_of_device device events packet p.of_device
          (subst (λ d. AreEventsOf ((path, d) ∷ []) path packet) p.device_is
          (packet_of_device s.device t.moment s.current s.places (places_after s t.want choice) lt (omega (arith, p.slots)) fit));
    }

-- ---- all of them

record Wrote (device : ℕ) (before : List (ℕ × List Want)) (ts : List Taken) (text : List ℕ) : Type 0 where
  packets : List Written
  state : State
  events : List RawEvent
  past : Past device packets state events
  one_each : wanted_of packets ≡ reverse (sent_by ts) ++ before
  text_is : text ≡ lines path events

within : (text all : List ℕ) (b : Bool) → ◌≡◌ {A = Result (List ℕ) EmitError} (Ok text) (if b then Err TooLong else Ok all) → text ≡ all
within text all true e = absurd (cc)
within text all false e = cc e

wrote : (device : ℕ) (ts : List Taken) (past : List Written) (s : State) (events : List RawEvent) (text : List ℕ) → AreSent ts → Past device past s events
    → Emits s events ts (Ok text) → Wrote device (wanted_of past) ts text
wrote device [] past s events text told p h = record {
  packets = past;
  state = s;
  events = events;
  past = p;
  one_each = refl;
  text_is = within text (lines path events) (nat_lt 33554432 (length (lines path events))) h;
}
wrote device (t ∷ ts) past s events text told p h =
    let (none, (choice, best, rest)) =
    goes_on (refused s t) text ((choice : List Bool) × IsBestChoice s t.moment t.want choice
    × Emits (after s t.want choice) (events ++ packet_of s t.moment t.want choice) ts (Ok text)) h in
    let now : Written = record { moment = t.moment; want = t.want; choice = choice } in
    let w : Wrote device (wanted_of (now ∷ past)) ts text =
    wrote device ts (now ∷ past) (after s t.want choice) (events ++ packet_of s t.moment t.want choice) text told.1
    (one_more device past s events t choice told.0 p none best) rest in
    record {
      packets = w.packets;
      state = w.state;
      events = w.events;
      past = w.past;
      one_each = w.one_each
          ∙ sym (append_assoc (reverse (sent_by ts)) ((t.moment, t.want) ∷ []) (wanted_of past))
          ∙ ap (λ ws. ws ++ wanted_of past) (sym (reverse-append ((t.moment, t.want) ∷ []) (sent_by ts)));
      text_is = w.text_is;
    }

cook_all : (device : ℕ) (past : List Written) → MayWriteAll device 16 past → CookToWanted device past
cook_all device [] h = tt
cook_all device (w ∷ past) h = (cooking device 16 w past (omega arith) (omega arith) h, cook_all device past h.1)

is_path : IsPath path (codes "dev/input/event0")
is_path = record { begins = refl; inside = refl; short = omega arith }

recording : (device : ℕ) (motions : List Taken) (text : List ℕ) → AreSent motions → Emits (first device 16) [] motions (Ok text) → IsRecording device motions text
recording device motions text told h =
    let w : Wrote device [] motions text = wrote device motions [] (first device 16) [] text told (nothing device) h in
    record {
      packets = w.packets;
      one_each = w.one_each ∙ append-nil (reverse (sent_by motions));
      read = ap (λ t. recorded ((path, device) ∷ []) t) w.text_is
          ∙ reading ((path, device) ∷ []) path (codes "dev/input/event0") w.events is_path w.past.of_device
          ∙ ap (λ (es : List RawEvent). Ok es) w.past.events_are;
      cooked = cook_all device w.packets w.past.may;
    }

-- ---- the file

abbrev Answered : ℕ → Result (Option (List Taken)) FileError → List ℕ → Type 0
Answered device r text = (motions : List Taken) × (r ≡ Ok (Some motions)) × IsRecording device motions text

of_motions : (device : ℕ) (o : Option (List Taken)) (text : List ℕ) → MotionsSent o → AnswersFor device (Ok o) (Ok text) → Answered device (Ok o) text
of_motions device None text told h = absurd (cc)
of_motions device (Some motions) text told h = (motions, refl, recording device motions text told h)

of_streams : (device : ℕ) (o : Option (List Taken)) (broken : Option ℕ) (text : List ℕ) → MotionsSent o → AnswersFor device (unless_broken broken o) (Ok text)
    → Answered device (unless_broken broken o) text
of_streams device o None text told h = of_motions device o text told h
of_streams device o (Some line) text told h = absurd (cc)

of_events : (bytes : List ℕ) (channel device : ℕ) (r : Result (List Event) ℕ) (text : List ℕ) → events_of bytes ≡ r
    → AnswersFor device (judged (motions_of channel device) (streams_in r)) (Ok text)
    → Answered device (judged (motions_of channel device) (streams_in r)) text
of_events bytes channel device (Err bad) text e h = absurd (cc)
of_events bytes channel device (Ok es) text e h =
    of_streams device (motions_of channel device (streams_of es)) (first_break (streams_of es)) text (motions_sent bytes channel device es e) h

pub records : RecordingLaw
records bytes channel device text h = of_events bytes channel device (events_of bytes) text refl h
