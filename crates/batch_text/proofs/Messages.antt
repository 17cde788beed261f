-- The messages of a section, one after another.
use Rattle.std.proofs.Common.{◌≡◌, ℕ, ◌+◌, List, [], ◌∷◌, ◌++◌, length, Option, Some, None, Result, Ok, Err, refl, sym, ap, subst, ◌∙◌, arith}
use Rattle.input_types.specs.declared.message.Message.{Message as Told}
use Rattle.motion_batch.specs.Calls.{Call, flushed, items}
use Rattle.gesture_verifier.specs.Told.{Told as Tables}
use Rattle.stream_text.specs.declared.stream_line.StreamLine.TheVariants.{Message}
use Rattle.stream_text.specs.StreamFile.{Event, Stream}
use Rattle.stream_text.specs.StreamAnswer.{behind, message_sent, opened}
use Rattle.stream_text.proofs.Streams.{opened_end, opened_more}
use Rattle.stream_judge.specs.declared.error.FileError.{FileError}
use Rattle.stream_judge.specs.declared.error.FileError.TheVariants.{BadLine, NotWellFormed, Memory}
use Rattle.stream_judge.specs.Breaks.{HasPassed, break_from, first_break}
use Rattle.stream_judge.specs.Judged.{Numbers, Refuses, judged, refused_at}
use Rattle.batch_text.specs.declared.batches.Batches.{Batches}
use Rattle.batch_text.specs.Frames.{calls_from, with_message}
use Rattle.batch_text.specs.Lines.{items_text}
use Rattle.batch_text.specs.Sections.{IsBad, ReadsSection, RefusesSection, before, message_at}
use Rattle.batch_text.specs.Writing.{Written}
use Rattle.batch_text.proofs.Reading.{bad_behind, numbers_next, refused_behind, sent_at, sent_none}

-- these messages of a section were read, and what is left is that of all of them
pub record SoFar (frame : ℕ) (messages : List Told) (old now : Result (List Event) ℕ) (judge : Tables) (front text : List ℕ) (b : Batches) : Type 0 where
  pub read : (id first : ℕ) → opened id first messages now ≡ opened id first [] old
  pub passed : HasPassed messages judge
  pub written : Written (calls_from frame [] messages) front b text
  pub numbers : (first : ℕ) → Numbers first old → Numbers (first + length messages) now

pub at_start : (frame : ℕ) (old : Result (List Event) ℕ) (judge : Tables) (text : List ℕ) (b : Batches) → HasPassed [] judge → Written [] text b text
    → SoFar frame [] old old judge text text b
at_start frame old judge text b passed written =
    record {
      read = λ id first. refl;
      passed = passed;
      written = written;
      numbers = λ first h. let e : first + 0 ≡ first = omega arith in rw e h;
    }

calls_more : (frame : ℕ) (calls : List Call) (ms : List Told) (m : Told) → calls_from frame calls (ms ++ m ∷ []) ≡ with_message frame (calls_from frame calls ms) m
calls_more frame calls [] m = refl
calls_more frame calls (x ∷ ms) m = calls_more frame (with_message frame calls x) ms m

length_more : (ms : List Told) (m : Told) → length (ms ++ m ∷ []) ≡ length ms + 1
length_more [] m = refl
length_more (x ∷ ms) m = let e = length_more ms m in omega (arith, e)

pub one_more : (frame : ℕ) (messages : List Told) (old now new : Result (List Event) ℕ) (judge judge' : Tables) (front text text' : List ℕ) (b b' : Batches)
    (line : Option Event) (k : ℕ) (m : Told)
    → SoFar frame messages old now judge front text b → now ≡ behind line new → message_at line ≡ Some (k, m) → HasPassed (messages ++ m ∷ []) judge'
    → Written (with_message frame (calls_from frame [] messages) m) front b' text' → SoFar frame (messages ++ m ∷ []) old new judge' front text' b'
one_more frame messages old now new judge judge' front text text' b b' line k m s e is passed written =
    let line_is : line ≡ Some (k, Message m) = sent_at line k m is in
    record {
      read = λ id first.
          sym (opened_more id first messages m line new (ap message_sent line_is)) ∙ ap (opened id first messages) (sym e) ∙ s.read id first;
      passed = passed;
      written = subst (λ calls. Written calls front b' text') (sym (calls_more frame [] messages m)) written;
      numbers = λ first h.
          let n : first + length messages + 1 ≡ first + length (messages ++ m ∷ []) = omega (arith, length_more messages m) in
          subst (λ n. Numbers n new) n (numbers_next (first + length messages) line k m now new e line_is (s.numbers first h));
    }

pub section_end : (frame : ℕ) (messages : List Told) (old now new : Result (List Event) ℕ) (judge : Tables) (front text text' : List ℕ) (b : Batches) (line : Option Event)
    → SoFar frame messages old now judge front text b → now ≡ behind line new → message_at line ≡ None
    → text' ≡ front ++ items_text (items (flushed ∷ calls_from frame [] messages)) → ReadsSection frame old new front text' line
section_end frame messages old now new judge front text text' b line s e none written =
    record {
      messages = messages;
      read = λ id first. sym (s.read id first) ∙ ap (opened id first messages) e ∙ opened_end id first messages line new (sent_none line none);
      unbroken = s.passed.unbroken;
      numbers = λ first h. (first + length messages, subst (λ r. Numbers (first + length messages) r) e (s.numbers first h));
      items_are = written;
    }

pub section_bad : (frame : ℕ) (messages : List Told) (old now : Result (List Event) ℕ) (judge : Tables) (front text : List ℕ) (b : Batches) (error : FileError)
    → SoFar frame messages old now judge front text b → IsBad now error → (first : ℕ) → RefusesSection first old error
section_bad frame messages old now judge front text b (BadLine bad) s h first =
    λ f id streams none. bad_behind f streams (opened id first [] old) bad (sym (s.read id first) ∙ ap (opened id first messages) h)
section_bad frame messages old now judge front text b (NotWellFormed line) s h first = absurd h
section_bad frame messages old now judge front text b Memory s h first = absurd h

pub section_broken : (frame : ℕ) (messages : List Told) (old now new : Result (List Event) ℕ) (judge : Tables) (front text : List ℕ) (b : Batches) (line : Option Event)
    (k : ℕ) (m : Told) (error : FileError)
    → SoFar frame messages old now judge front text b → now ≡ behind line new → message_at line ≡ Some (k, m)
    → ((n : ℕ) (rest : List Told) → break_from n [] (messages ++ m ∷ rest) ≡ Some (n + length messages)) → error ≡ refused_at k new
    → (first : ℕ) → Numbers first old → RefusesSection first old error
section_broken frame messages old now new judge front text b line k m error s e is breaks refused first h =
    let there : now ≡ behind (Some (k, Message m)) new = e ∙ ap (λ l. behind l new) (sent_at line k m is) in
    let numbers = subst (λ r. Numbers (first + length messages) r) there (s.numbers first h) in
    λ f id streams none.
    let path : opened id first messages (behind (Some (k, Message m)) new) ≡ opened id first [] old =
    ap (opened id first messages) (sym there) ∙ s.read id first in
    subst (λ x. Refuses (judged f (before streams (opened id first [] old))) x) (sym refused)
    (subst (λ r. Refuses (judged f (before streams r)) (refused_at k new)) path
    (refused_behind f streams id first k messages m new none (breaks first) numbers))
