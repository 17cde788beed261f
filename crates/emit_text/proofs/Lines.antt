-- One line more.
use Rattle.std.specs.Prelude.{OnOk, IfErr}
use Rattle.std.proofs.Common.{◌≡◌, ℕ, ◌≤◌, true, List, [], ◌∷◌, ◌++◌, length, Option, Some, None, Result, Ok, Err, refl, ap, ◌∙◌, arith}
use Rattle.input_types.specs.declared.message.Message.{Message as Told}
use Rattle.raw_events.specs.declared.event.RawEvent.{RawEvent}
use Rattle.stream_judge.specs.declared.error.FileError.{FileError}
use Rattle.stream_judge.specs.declared.error.FileError.TheVariants as file
use Rattle.stream_text.specs.declared.stream_line.StreamLine.{StreamLine}
use Rattle.stream_text.specs.declared.stream_line.StreamLine.TheVariants.{Channel, Message, End, Anr}
use Rattle.stream_text.specs.StreamFile.{Event}
use Rattle.touch_writer.specs.declared.want.Want.{Want}
use Rattle.touch_writer.specs.State.{State, packet_of}
use Rattle.touch_writer_cooks.specs.Cooking.{first}
use Rattle.emit_text.specs.declared.emission.Emission.{Emission}
use Rattle.emit_text.specs.declared.emission.Stage.{Stage}
use Rattle.emit_text.specs.declared.emission.Stage.TheVariants.{Before, Open, Behind, Refused}
use Rattle.emit_text.specs.declared.error.EmitError.{EmitError}
use Rattle.emit_text.specs.declared.error.EmitError.TheVariants.{BadLine, NotWellFormed, NoChannel, TooLate, NotAssignable, Spent, TooLong, Memory}
use Rattle.emit_text.specs.declared.packets.Packets.{Packets}
use Rattle.emit_text.specs.Emitted.{AnswersFor, IsEmitted, Refuses}
use Rattle.emit_text.specs.JudgedLines.{file_lines}
use Rattle.emit_text.specs.Motions.{Taken, taken_at, wanted_after}
use Rattle.emit_text.specs.Packets.{Emits, refused}
use Rattle.emit_text.specs.Refusals.{file_refusal}
use Rattle.emit_text.specs.Reading.{Adds, IsFrom, IsRefused, Leads, RefusesMessage, RestAt, RestOfFile, Spends, begins, motion_before, motions_at, motions_in}
use Rattle.emit_text.specs.Written.{AddsPacket, RefusesPacket, Stays, Wrote, motion}
use Rattle.emit_text.proofs.Steps.{is_spent, one_refused, one_written, spends_after}
use Rattle.emit_text.proofs.Ties.{AnswersLines, of_file}

-- a writer that writes nothing
pub spends_none : (s : State) → Spends s s
spends_none s = record { slots = refl; used = omega arith }

-- the section begins
begin_rest : (s : Stage) (channel device : ℕ) (w : State) (events : List RawEvent) (line : ℕ) (says : StreamLine) (es : List Event) (answer : Result (List ℕ) EmitError)
    → s ≡ Before → begins channel says ≡ true → Emits w events (motions_at device es) answer → RestAt s channel device w events ((line, says) ∷ es) answer
begin_rest Before channel device w events line says es answer e b h = rw b h
begin_rest Open channel device w events line says es answer e b h = cc e
begin_rest Behind channel device w events line says es answer e b h = cc e
begin_rest (Refused error) channel device w events line says es answer e b h = cc e

pub section_begins : (e new : Emission) (events : List RawEvent) (line : ℕ) (says : StreamLine) → e.stage ≡ Before → begins e.channel says ≡ true → Wrote events e.packets
    → new.stage ≡ Open → new.channel ≡ e.channel → new.device ≡ e.device → new.packets ≡ e.packets → Leads events line says e new
section_begins e new events line says is b w stage channel device packets = record {
  behind = events;
  wrote = rw packets w;
  rest = λ es answer h.
      begin_rest e.stage e.channel e.device e.packets.writer events line says es answer is b
      (let at_open : RestAt Open new.channel new.device new.packets.writer events es answer = rw stage at h in rw (device, packets) at at_open);
  spends = rw packets (spends_none e.packets.writer);
  spent = λ _ _. rw stage tt;
}

-- the section ends
ends_at : (device line : ℕ) (says : StreamLine) (ts : List Taken) → ((m : Told) → says ≡ Message m → ⊥) → motion_before device line says ts ≡ []
ends_at device line (Channel id) ts not = refl
ends_at device line (Message m) ts not = absurd (not m refl)
ends_at device line (End id sent received finished) ts not = refl
ends_at device line (Anr clock id seq) ts not = refl

pub section_ends : (e : Emission) (events : List RawEvent) (line : ℕ) (says : StreamLine) → e.stage ≡ Open → ((m : Told) → says ≡ Message m → ⊥) → Wrote events e.packets
    → Leads events line says e (record { channel = e.channel; device = e.device; stage = Behind; want = e.want; packets = e.packets })
section_ends e events line says is not w = record {
  behind = events;
  wrote = w;
  rest = λ es answer h. rw (is, ends_at e.device line says (motions_at e.device es) not) h;
  spends = spends_none e.packets.writer;
  spent = λ _ _. tt;
}

-- a message of the section is written
pub message_leads : (e new : Emission) (events behind : List RawEvent) (line : ℕ) (m : Told) → e.stage ≡ Open → Wrote behind new.packets
    → Adds events line m e.device e.packets.writer new.packets.writer behind → new.stage ≡ e.stage → new.channel ≡ e.channel → new.device ≡ e.device
    → Leads events line (Message m) e new
message_leads e new events behind line m is w adds stage channel device = record {
  behind = behind;
  wrote = w;
  rest = λ es answer h.
      let open_now : RestAt Open new.channel new.device new.packets.writer behind es answer = rw (stage ∙ is) at h in
      let same : Emits new.packets.writer behind (motions_at e.device es) answer = rw device at open_now in
      rw is (adds.rest (motions_at e.device es) answer same);
  spends = adds.spends;
  spent = λ _ _. rw (stage ∙ is) tt;
}

message_adds_one : (events : List RawEvent) (line : ℕ) (m : Told) (device : ℕ) (want : List Want) (old new : Packets) → wanted_after device m.body ≡ Some want
    → length want ≤ 16 → AddsPacket events line m.moment want old new
    → (x : List RawEvent) × Wrote x new × Adds events line m device old.writer new.writer x
message_adds_one events line m device want old new is few a =
    let one : taken_at device line m ≡ Some (motion line m.moment want) = rw is refl in (
      events ++ packet_of old.writer m.moment want a.choice,
      a.wrote,
      record {
        rest = λ ts answer h.
            rw one
            (one_written old.writer events (motion line m.moment want) ts a.choice answer a.taken a.best (rw a.writer at h));
        spends = rw a.writer (spends_after old.writer want a.choice few);
      },
    )

pub message_adds : {E : Type 0} (r : Result (Unit {0}) E) (events : List RawEvent) (line : ℕ) (m : Told) (device : ℕ) (want : List Want) (old new : Packets)
    → wanted_after device m.body ≡ Some want → length want ≤ 16 → OnOk r (AddsPacket events line m.moment want old new)
    → OnOk r ((x : List RawEvent) × Wrote x new × Adds events line m device old.writer new.writer x)
message_adds (Ok done) events line m device want old new is few a = message_adds_one events line m device want old new is few a
message_adds (Err error) events line m device want old new is few a = tt

-- or it is refused
refuses_one : (line : ℕ) (m : Told) (device : ℕ) (want : List Want) (s : State) (error : EmitError) → wanted_after device m.body ≡ Some want → length want ≤ 16
    → refused s (motion line m.moment want) ≡ Some error → IsRefused line m device s error
refuses_one line m device want s error is few e =
    let one : taken_at device line m ≡ Some (motion line m.moment want) = rw is refl in
    record {
      rest = λ events ts. rw one (one_refused s events (motion line m.moment want) ts error e);
      spent = λ slots. is_spent s (motion line m.moment want) error e slots few;
    }

refuses_message : (line : ℕ) (m : Told) (device : ℕ) (want : List Want) (old new : Packets) (error : EmitError) → wanted_after device m.body ≡ Some want → length want ≤ 16
    → RefusesPacket line m.moment want old new error → RefusesMessage line m device old new error
refuses_message line m device want old new (BadLine l) is few h = (h.1, refuses_one line m device want old.writer (BadLine l) is few h.0)
refuses_message line m device want old new (NotWellFormed l) is few h = (h.1, refuses_one line m device want old.writer (NotWellFormed l) is few h.0)
refuses_message line m device want old new NoChannel is few h = (h.1, refuses_one line m device want old.writer NoChannel is few h.0)
refuses_message line m device want old new (TooLate l) is few h = (h.1, refuses_one line m device want old.writer (TooLate l) is few h.0)
refuses_message line m device want old new (NotAssignable l) is few h = (h.1, refuses_one line m device want old.writer (NotAssignable l) is few h.0)
refuses_message line m device want old new (Spent l) is few h = (h.1, refuses_one line m device want old.writer (Spent l) is few h.0)
refuses_message line m device want old new TooLong is few h = (h.1, refuses_one line m device want old.writer TooLong is few h.0)
refuses_message line m device want old new Memory is few h = tt

pub message_refuses : {T : Type 0} (r : Result T EmitError) (line : ℕ) (m : Told) (device : ℕ) (want : List Want) (old new : Packets) → wanted_after device m.body ≡ Some want
    → length want ≤ 16 → IfErr r (RefusesPacket line m.moment want old new) → IfErr r (RefusesMessage line m device old new)
message_refuses (Ok done) line m device want old new is few h = tt
message_refuses (Err error) line m device want old new is few h = refuses_message line m device want old new error is few h

refused_so : (line : ℕ) (m : Told) (device : ℕ) (old new : Packets) (error : EmitError) → (error ≡ Memory → ⊥) → RefusesMessage line m device old new error
    → Stays old new × IsRefused line m device old.writer error
refused_so line m device old new (BadLine l) not h = h
refused_so line m device old new (NotWellFormed l) not h = h
refused_so line m device old new NoChannel not h = h
refused_so line m device old new (TooLate l) not h = h
refused_so line m device old new (NotAssignable l) not h = h
refused_so line m device old new (Spent l) not h = h
refused_so line m device old new TooLong not h = h
refused_so line m device old new Memory not h = absurd (not refl)

refused_leads : (e new : Emission) (mid : Packets) (events : List RawEvent) (line : ℕ) (says : StreamLine) (m : Told) (error : EmitError) → says ≡ Message m → e.stage ≡ Open
    → Wrote events e.packets → RefusesMessage line m e.device e.packets mid error → new.packets ≡ mid → (error ≡ Memory → ⊥) → new.stage ≡ Refused error
    → Leads events line says e new
refused_leads e new mid events line says m error says_is is w refuses packets not stage =
    let (stays, refused) = refused_so line m e.device e.packets mid error not refuses in
    let same : new.packets.writer ≡ e.packets.writer = ap (λ (p : Packets). p.writer) packets ∙ stays.writer in
    record {
      behind = events;
      wrote = rw (packets, stays.text, stays.over) w;
      rest = λ es answer h.
          let answers : answer ≡ Err error = rw stage at h in
          rw (is, says_is, answers) (refused.rest events (motions_at e.device es));
      spends = rw same (spends_none e.packets.writer);
      spent = λ slots _. rw (stage, same) (refused.spent slots);
    }

pub message_refused : {T E : Type 0} (r : Result T E) (e new : Emission) (mid : Packets) (events : List RawEvent) (line : ℕ) (says : StreamLine) (m : Told) (error : EmitError)
    → says ≡ Message m → e.stage ≡ Open → Wrote events e.packets → RefusesMessage line m e.device e.packets mid error → new.packets ≡ mid
    → OnOk r ((new.stage ≡ Refused error) × (error ≡ Memory → ⊥)) → OnOk r (Leads events line says e new)
message_refused (Ok done) e new mid events line says m error says_is is w refuses packets h =
    refused_leads e new mid events line says m error says_is is w refuses packets h.1 h.0
message_refused (Err error2) e new mid events line says m error says_is is w refuses packets h = tt

-- ---- the file

from_found : (device : ℕ) (o : Option (List Taken)) (answer : Result (List ℕ) EmitError) → IsFrom (first device 16) [] o answer → AnswersFor device (Ok o) answer
from_found device None answer h = h
from_found device (Some ts) answer h = h

pub start_rest : (e : Emission) (channel device : ℕ) (r : Result (List Event) FileError) (answer : Result (List ℕ) EmitError) → e.stage ≡ Before → e.channel ≡ channel
    → e.device ≡ device → e.packets.writer ≡ first device 16 → RestOfFile e [] r answer → AnswersLines channel device r answer
start_rest e channel device (Err error) answer stage at_channel at_device writer h = h
start_rest e channel device (Ok es) answer stage at_channel at_device writer h =
    let from : RestAt Before channel device (first device 16) [] es answer = rw (stage, at_channel, at_device, writer) at h in
    from_found device (motions_in channel device es) answer from

pub refused_file : (bytes : List ℕ) (channel device : ℕ) (error : FileError) → file_lines bytes ≡ Err error → Refuses (IsEmitted bytes channel device) (file_refusal error)
refused_file bytes channel device (file.BadLine line) e = of_file bytes channel device (Err (BadLine line)) (rw e refl)
refused_file bytes channel device (file.NotWellFormed line) e = of_file bytes channel device (Err (NotWellFormed line)) (rw e refl)
refused_file bytes channel device file.Memory e = tt
