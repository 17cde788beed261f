-- What the lines of a file say one after another is what its streams say.
use Rattle.std.proofs.Common.{◌≡◌, ℕ, ◌+◌, nat_eq, Bool, true, false, if◌then◌else◌, List, [], ◌∷◌, Option, Some, None, Result, Ok, Err, is_some, refl, sym, ap, ◌∙◌}
use Rattle.std.specs.Option.{option_map, option_and_then, option_or}
use Rattle.input_types.specs.declared.message.Message.{Message as Told}
use Rattle.input_types.specs.StreamRule.{StreamState, after_body, stream_state, unsent}
use Rattle.stream_text.specs.declared.stream_line.StreamLine.{StreamLine}
use Rattle.stream_text.specs.declared.stream_line.StreamLine.TheVariants.{Channel, Message, End, Anr}
use Rattle.stream_text.specs.StreamFile.{Event, Stream, events_of, messages_of, streams_in, streams_of}
use Rattle.stream_judge.specs.declared.error.FileError.{FileError}
use Rattle.stream_judge.specs.Breaks.{break_from, first_break}
use Rattle.stream_judge.specs.Judged.{judged, unless_broken}
use Rattle.emit_text.specs.declared.error.EmitError.{EmitError}
use Rattle.emit_text.specs.Emitted.{AnswersFor, motions_of, section}
use Rattle.emit_text.specs.JudgedLines.{break_or, breaks, file_lines, judged_lines}
use Rattle.emit_text.specs.Motions.{Taken, in_front, taken, taken_at}
use Rattle.emit_text.specs.Reading.{motions_at, motions_in}
use Rattle.emit_text.proofs.Placed.{ArePlaced, MayStand, Places, placed_of}

-- what lines say outside of a section
record Outside (channel device : ℕ) (es : List Event) : Type 0 where
  breaks_are : (s : StreamState) → breaks s es ≡ first_break (streams_of es)
  motions_are : motions_in channel device es ≡ motions_of channel device (streams_of es)

-- what lines from line n on say inside of one
record Inside (channel device n : ℕ) (es : List Event) : Type 0 where
  breaks_are : (s : StreamState) (past : List Told) → stream_state past ≡ Some s
      → breaks s es ≡ option_or (break_from n past (messages_of es)) (first_break (streams_of es))
  motions_are : motions_in channel device es ≡ motions_of channel device (streams_of es)
  section_is : motions_at device es ≡ taken device n (messages_of es)

abbrev Ties : Bool → ℕ → ℕ → ℕ → List Event → Type 0
Ties false channel device n es = Outside channel device es
Ties true channel device n es = Inside channel device n es

found_at : (channel device id first : ℕ) (ms : List Told) (streams : List Stream) (b : Bool)
    → (if b then Some (taken device first ms) else motions_of channel device streams)
    ≡ option_map (λ s. taken device s.first_line s.messages) (if b then Some (record { id = id; first_line = first; messages = ms }) else section channel streams)
found_at channel device id first ms streams true = refl
found_at channel device id first ms streams false = refl

-- a message that may come, or may not
may_come : (n : ℕ) (past : List Told) (m : Told) (s : StreamState) (es : List Event) (o : Option StreamState) → stream_state (m ∷ past) ≡ o
    → ((t : StreamState) → o ≡ Some t → breaks t es ≡ option_or (break_from (n + 1) (m ∷ past) (messages_of es)) (first_break (streams_of es)))
    → break_or n o (λ next. breaks next es)
    ≡ option_or (if is_some o then break_from (n + 1) (m ∷ past) (messages_of es) else Some n) (first_break (streams_of es))
may_come n past m s es None e h = refl
may_come n past m s es (Some t) e h = h t refl

state_more : (past : List Told) (m : Told) (s : StreamState) → stream_state past ≡ Some s → stream_state (m ∷ past) ≡ after_body s m.body
state_more past m s e = ap (λ o. option_and_then (λ s. after_body s m.body) o) e

step : (inside : Bool) (channel device n : ℕ) (says : StreamLine) (es : List Event) → MayStand inside says (λ b. ArePlaced b (n + 1) es)
    → ((b : Bool) → ArePlaced b (n + 1) es → Ties b channel device (n + 1) es) → Ties inside channel device n ((n, says) ∷ es)
step false channel device n (Channel id) es p h =
    let t : Inside channel device (n + 1) es = h true p in
    record {
      breaks_are = λ s. t.breaks_are unsent [] refl;
      motions_are = ap (λ (ts : List Taken). if nat_eq id channel then Some ts else motions_in channel device es) t.section_is
          ∙ ap (λ (o : Option (List Taken)). if nat_eq id channel then Some (taken device (n + 1) (messages_of es)) else o) t.motions_are
          ∙ found_at channel device id (n + 1) (messages_of es) (streams_of es) (nat_eq id channel);
    }
step false channel device n (Message m) es p h = absurd p
step false channel device n (End id sent received finished) es p h = absurd p
step false channel device n (Anr clock id seq) es p h =
    let t : Outside channel device es = h false p in
    record { breaks_are = t.breaks_are; motions_are = t.motions_are }
step true channel device n (Channel id) es p h = absurd p
step true channel device n (Message m) es p h =
    let t : Inside channel device (n + 1) es = h true p in
    record {
      breaks_are = λ s past e.
          let more : stream_state (m ∷ past) ≡ after_body s m.body = state_more past m s e in
          may_come n past m s es (after_body s m.body) more (λ u f. t.breaks_are u (m ∷ past) (more ∙ f))
          ∙ ap (λ o. option_or (if is_some o then break_from (n + 1) (m ∷ past) (messages_of es) else Some n) (first_break (streams_of es))) (sym more);
      motions_are = t.motions_are;
      section_is = ap (λ ts. in_front (taken_at device n m) ts) t.section_is;
    }
step true channel device n (End id sent received finished) es p h =
    let t : Outside channel device es = h false p in
    record { breaks_are = λ s past e. t.breaks_are s; motions_are = t.motions_are; section_is = refl }
step true channel device n (Anr clock id seq) es p h = absurd p

nothing : (inside : Bool) (channel device n : ℕ) → Ties inside channel device n []
nothing false channel device n = record { breaks_are = λ s. refl; motions_are = refl }
nothing true channel device n = record { breaks_are = λ s past e. refl; motions_are = refl; section_is = refl }

ties : (inside : Bool) (channel device n : ℕ) (es : List Event) → ArePlaced inside n es → Ties inside channel device n es
ties inside channel device n [] p = nothing inside channel device n
ties inside channel device n ((k, says) ∷ es) (e, p) = let h = step inside channel device n says es p (λ b q. ties b channel device (n + 1) es q) in rw e h

-- the answer for the lines of a file, before the section
abbrev pub AnswersLines : ℕ → ℕ → Result (List Event) FileError → Result (List ℕ) EmitError → Type 0
AnswersLines channel device (Ok es) answer = AnswersFor device (Ok (motions_in channel device es)) answer
AnswersLines channel device (Err error) answer = AnswersFor device (Err error) answer

unbroken : (channel device : ℕ) (es : List Event) (streams : List Stream) (o : Option ℕ) (answer : Result (List ℕ) EmitError)
    → motions_in channel device es ≡ motions_of channel device streams → AnswersLines channel device (unless_broken o es) answer
    → AnswersFor device (unless_broken o (motions_of channel device streams)) answer
unbroken channel device es streams None answer e h = rw e at h
unbroken channel device es streams (Some line) answer e h = h

of_lines : (channel device n : ℕ) (r : Result (List Event) ℕ) (answer : Result (List ℕ) EmitError) → Places false n r
    → AnswersLines channel device (judged_lines unsent r) answer → AnswersFor device (judged (motions_of channel device) (streams_in r)) answer
of_lines channel device n (Err bad) answer p h = h
of_lines channel device n (Ok es) answer p h =
    let t : Outside channel device es = ties false channel device n es p in
    unbroken channel device es (streams_of es) (first_break (streams_of es)) answer t.motions_are (rw (t.breaks_are unsent) at h)

pub of_file : (bytes : List ℕ) (channel device : ℕ) (answer : Result (List ℕ) EmitError) → AnswersLines channel device (file_lines bytes) answer
    → AnswersFor device (judged (motions_of channel device) (streams_in (events_of bytes))) answer
of_file bytes channel device answer h = let (n, p) = placed_of bytes in of_lines channel device n (events_of bytes) answer p h
