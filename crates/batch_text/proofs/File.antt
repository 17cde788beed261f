-- The sections of a file, one after another.
use Rattle.std.proofs.Common.{◌≡◌, ℕ, ◌+◌, List, [], ◌∷◌, ◌++◌, Option, Some, None, Result, Ok, Err, refl, sym, ap, subst, ◌∙◌}
use Rattle.std.proofs.lemmas.List.{append_assoc, append-nil}
use Rattle.motion_batch.specs.Calls.{items}
use Rattle.stream_text.specs.declared.stream_line.StreamLine.{StreamLine}
use Rattle.stream_text.specs.StreamFile.{Event, Stream, streams_in}
use Rattle.stream_text.specs.StreamAnswer.{behind, channel_sent, opened, with_stream}
use Rattle.stream_text.proofs.Streams.{channel_opens, others_add_none}
use Rattle.stream_judge.specs.declared.error.FileError.{FileError}
use Rattle.stream_judge.specs.declared.error.FileError.TheVariants.{BadLine, NotWellFormed, Memory}
use Rattle.stream_judge.specs.Breaks.{first_break}
use Rattle.stream_judge.specs.Judged.{Numbers, Refuses, judged, unless_broken}
use Rattle.batch_text.specs.Frames.{section_calls}
use Rattle.batch_text.specs.Lines.{channel_line, items_text}
use Rattle.batch_text.specs.Sections.{IsBad, ReadsSection, RefusesSection, before}
use Rattle.batch_text.specs.Text.{section_text, sections_text}
use Rattle.batch_text.proofs.Reading.{bad_behind, numbers_line, unbroken_more}

-- these sections of a file were read, and with what is left they are all
pub record FileSoFar (frame : ℕ) (front : List Stream) (all : Result (List Stream) ℕ) (line : Option Event) (left : Result (List Event) ℕ) (text : List ℕ) : Type 0 where
  pub read : before front (streams_in (behind line left)) ≡ all
  pub unbroken : first_break front ≡ None
  pub text_is : text ≡ sections_text frame front
  pub numbers : (n : ℕ) × Numbers n (behind line left)

before_none : (streams : Result (List Stream) ℕ) → before [] streams ≡ streams
before_none (Ok streams) = refl
before_none (Err bad) = refl

before_more : (front : List Stream) (stream : Stream) (streams : Result (List Stream) ℕ) → before front (with_stream stream streams) ≡ before (front ++ stream ∷ []) streams
before_more front stream (Ok streams) = ap (λ t. Ok t) (sym (append_assoc front (stream ∷ []) streams))
before_more front stream (Err bad) = refl

texts_more : (frame : ℕ) (front : List Stream) (s : Stream) → sections_text frame (front ++ s ∷ []) ≡ sections_text frame front ++ section_text frame s
texts_more frame [] s = append-nil (section_text frame s)
texts_more frame (x ∷ front) s =
    ap (λ t. section_text frame x ++ t) (texts_more frame front s) ∙ sym (append_assoc (section_text frame x) (sections_text frame front) (section_text frame s))

pub file_start : (frame : ℕ) (all : Result (List Event) ℕ) (line : Option Event) (left : Result (List Event) ℕ) → all ≡ behind line left → (n : ℕ) × Numbers n all
    → FileSoFar frame [] (streams_in all) line left []
file_start frame all line left e numbers =
    record {
      read = before_none (streams_in (behind line left)) ∙ ap streams_in (sym e);
      unbroken = refl;
      text_is = refl;
      numbers = (numbers.0, subst (λ r. Numbers numbers.0 r) e numbers.1);
    }

pub start_bad : (f : List Stream → List ℕ) (all : Result (List Event) ℕ) (error : FileError) → IsBad all error → Refuses (judged f (streams_in all)) error
start_bad f all (BadLine bad) e = rw e refl
start_bad f all (NotWellFormed line) e = absurd e
start_bad f all Memory e = absurd e

pub file_other : (frame : ℕ) (front : List Stream) (all : Result (List Stream) ℕ) (n : ℕ) (says : StreamLine) (line : Option Event) (left new : Result (List Event) ℕ) (text : List ℕ)
    → FileSoFar frame front all (Some (n, says)) left text → channel_sent says ≡ None → left ≡ behind line new → FileSoFar frame front all line new text
file_other frame front all n says line left new text f none e =
    record {
      read = ap (before front) (ap streams_in (sym e) ∙ sym (others_add_none n says left none)) ∙ f.read;
      unbroken = f.unbroken;
      text_is = f.text_is;
      numbers = (f.numbers.0 + 1, subst (λ r. Numbers (f.numbers.0 + 1) r) e (numbers_line f.numbers.0 n says left f.numbers.1));
    }

pub other_bad : (frame : ℕ) (front : List Stream) (all : Result (List Stream) ℕ) (n : ℕ) (says : StreamLine) (left : Result (List Event) ℕ) (text : List ℕ) (error : FileError)
    → FileSoFar frame front all (Some (n, says)) left text → channel_sent says ≡ None → IsBad left error → Refuses (judged (sections_text frame) all) error
other_bad frame front all n says left text (BadLine bad) f none e =
    subst (λ r. Refuses (judged (sections_text frame) r) (BadLine bad)) f.read
    (bad_behind (sections_text frame) front (streams_in (behind (Some (n, says)) left)) bad (others_add_none n says left none ∙ ap streams_in e))
other_bad frame front all n says left text (NotWellFormed line) f none e = absurd e
other_bad frame front all n says left text Memory f none e = absurd e

-- the line number of a section's first message
first_numbers : (n k : ℕ) (says : StreamLine) (left : Result (List Event) ℕ) → Numbers n (behind (Some (k, says)) left) → Numbers (k + 1) left
first_numbers n k says (Ok events) h = rw (h.0) h.1
first_numbers n k says (Err bad) h = tt

pub section_numbers : (frame : ℕ) (front : List Stream) (all : Result (List Stream) ℕ) (n : ℕ) (says : StreamLine) (left : Result (List Event) ℕ) (text : List ℕ)
    → FileSoFar frame front all (Some (n, says)) left text → Numbers (n + 1) left
section_numbers frame front all n says left text f = first_numbers f.numbers.0 n says left f.numbers.1

-- a section in front of those that are left
pub file_section : (frame : ℕ) (front : List Stream) (all : Result (List Stream) ℕ) (n id : ℕ) (says : StreamLine) (line : Option Event) (left new : Result (List Event) ℕ)
    (text text' : List ℕ) → FileSoFar frame front all (Some (n, says)) left text → channel_sent says ≡ Some id
    → (r : ReadsSection frame left new (text ++ channel_line id) text' line)
    → FileSoFar frame (front ++ record { id = id; first_line = n + 1; messages = r.messages } ∷ []) all line new text'
file_section frame front all n id says line left new text text' f is r =
    let s : Stream = record { id = id; first_line = n + 1; messages = r.messages } in
    let rest = streams_in (behind line new) in
    record {
      read = sym (before_more front s rest) ∙ ap (before front) (sym (channel_opens id n says left is ∙ r.read id (n + 1))) ∙ f.read;
      unbroken = unbroken_more front s f.unbroken (r.unbroken (n + 1));
      text_is = r.items_are
          ∙ append_assoc text (channel_line id) (items_text (items (section_calls frame r.messages)))
          ∙ ap (λ t. t ++ section_text frame s) f.text_is
          ∙ sym (texts_more frame front s);
      numbers = r.numbers (n + 1) (section_numbers frame front all n says left text f);
    }

pub file_refused : (frame : ℕ) (front : List Stream) (all : Result (List Stream) ℕ) (n id : ℕ) (says : StreamLine) (left : Result (List Event) ℕ) (text : List ℕ) (error : FileError)
    → FileSoFar frame front all (Some (n, says)) left text → channel_sent says ≡ Some id → RefusesSection (n + 1) left error
    → Refuses (judged (sections_text frame) all) error
file_refused frame front all n id says left text error f is h =
    subst (λ r. Refuses (judged (sections_text frame) r) error) (ap (before front) (sym (channel_opens id n says left is)) ∙ f.read)
    (h (sections_text frame) id front f.unbroken)

pub file_end : (frame : ℕ) (front : List Stream) (all : Result (List Stream) ℕ) (left : Result (List Event) ℕ) (text : List ℕ) → FileSoFar frame front all None left text
    → judged (sections_text frame) all ≡ Ok text
file_end frame front all left text f =
    ap (judged (sections_text frame)) (sym f.read ∙ ap (λ (ss : List Stream). Ok ss) (append-nil front))
    ∙ ap (λ b. unless_broken b (sections_text frame front)) f.unbroken
    ∙ ap (λ (t : List ℕ). Ok t) (sym f.text_is)
