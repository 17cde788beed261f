-- Sections that are read one after another.
use Rattle.std.proofs.Common.{◌≡◌, ℕ, ◌+◌, ◌≤◌, List, [], ◌∷◌, ◌++◌, length, Option, Some, None, Result, Ok, Err, refl, sym, ap, subst, ◌∙◌, arith}
use Rattle.std.proofs.lemmas.List.{append_assoc}
use Rattle.std.specs.Option.{option_or}
use Rattle.input_types.specs.declared.message.Message.{Message as Told}
use Rattle.stream_text.specs.declared.stream_line.StreamLine.{StreamLine}
use Rattle.stream_text.specs.declared.stream_line.StreamLine.TheVariants.{Channel, Message, End, Anr}
use Rattle.stream_text.specs.StreamFile.{Event, Goes, Stream, Unread, messages_of, streams_in, streams_of, with_event}
use Rattle.stream_text.specs.StreamAnswer.{behind, channel_sent, message_sent, opened, pending, with_stream}
use Rattle.stream_text.proofs.Streams.{goes_behind}
use Rattle.stream_judge.specs.declared.error.FileError.{FileError}
use Rattle.stream_judge.specs.declared.error.FileError.TheVariants.{BadLine, NotWellFormed, Memory}
use Rattle.stream_judge.specs.Breaks.{break_from, first_break}
use Rattle.stream_judge.specs.Judged.{AreNumbered, Numbers, Refuses, judged, refused_at, unless_broken}
use Rattle.batch_text.specs.Sections.{IsBad, IsBehind, before, message_at}

pub line_behind : (old : Unread) (line : Option Event) (new : Unread) → Goes old (Ok line) new
    → IsBehind old.events new.events line × (new.left + pending line ≤ old.left)
line_behind old line new h = goes_behind old line new h

-- a message that a line is
pub sent_at : (line : Option Event) (n : ℕ) (m : Told) → message_at line ≡ Some (n, m) → line ≡ Some (n, Message m)
sent_at None n m e = cc e
sent_at (Some (k, Message x)) n m e =
    let same : ◌≡◌ {A = ℕ × Told} (k, x) (n, m) = cc in
    ap (λ (p : ℕ × Told). Some (p.0, Message p.1)) same
sent_at (Some (k, Channel c)) n m e = cc e
sent_at (Some (k, End c s r f)) n m e = cc e
sent_at (Some (k, Anr c i s)) n m e = cc e

pub sent_none : (line : Option Event) → message_at line ≡ None → message_sent line ≡ None
sent_none None e = refl
sent_none (Some (k, Message x)) e = cc e
sent_none (Some (k, Channel c)) e = refl
sent_none (Some (k, End c s r f)) e = refl
sent_none (Some (k, Anr c i s)) e = refl

-- the number of a line that was read, where none of those behind it is bad
pub numbers_line : (n k : ℕ) (says : StreamLine) (left : Result (List Event) ℕ) → Numbers n (behind (Some (k, says)) left)
    → Numbers (n + 1) left
numbers_line n k says (Ok events) h = h.1
numbers_line n k says (Err bad) h = tt

pub numbers_next : (n : ℕ) (line : Option Event) (k : ℕ) (m : Told) (old new : Result (List Event) ℕ) → old ≡ behind line new → line ≡ Some (k, Message m)
    → Numbers n old → Numbers (n + 1) new
numbers_next n line k m old new e is h = numbers_line n k (Message m) new (subst (λ r. Numbers n r) (e ∙ ap (λ l. behind l new) is) h)

-- streams without a break in front of others
broken_step : (one rest all behind : Option ℕ) → option_or one rest ≡ None → (rest ≡ None → all ≡ behind) → option_or one all ≡ behind
broken_step None rest all behind e step = step e
broken_step (Some line) rest all behind e step = cc e

broken_behind : (front streams : List Stream) → first_break front ≡ None → first_break (front ++ streams) ≡ first_break streams
broken_behind [] streams e = refl
broken_behind (s ∷ front) streams e = broken_step (break_from s.first_line [] s.messages) (first_break front) (first_break (front ++ streams)) (first_break streams) e (broken_behind front streams)

pub unbroken_more : (front : List Stream) (s : Stream) → first_break front ≡ None → break_from s.first_line [] s.messages ≡ None
    → first_break (front ++ s ∷ []) ≡ None
unbroken_more front s e none = broken_behind front (s ∷ []) e ∙ rw none refl

-- a bad line behind what was read
pub bad_behind : (f : List Stream → List ℕ) (front : List Stream) (left : Result (List Stream) ℕ) (bad : ℕ) → left ≡ Err bad
    → judged f (before front left) ≡ Err (BadLine bad)
bad_behind f front left bad e = rw e refl

-- a break in a section, and what stands behind it
pub refused_behind : (f : List Stream → List ℕ) (front : List Stream) (id first k : ℕ) (messages : List Told) (m : Told) (left : Result (List Event) ℕ)
    → first_break front ≡ None
    → ((ms : List Told) → break_from first [] (messages ++ m ∷ ms) ≡ Some (first + length messages))
    → Numbers (first + length messages) (behind (Some (k, Message m)) left)
    → Refuses (judged f (before front (opened id first messages (behind (Some (k, Message m)) left)))) (refused_at k left)
refused_behind f front id first k messages m (Err bad) none breaks h = refl
refused_behind f front id first k messages m (Ok events) none breaks h =
    let all : List Told = messages ++ m ∷ messages_of events in
    let here : first_break (record { id = id; first_line = first; messages = all } ∷ streams_of events) ≡ Some k =
    ap (λ b. option_or b (first_break (streams_of events))) (breaks (messages_of events) ∙ ap (λ n. Some n) (sym h.0)) in
    ap (λ b. unless_broken b (f (front ++ record { id = id; first_line = first; messages = all } ∷ streams_of events)))
    (broken_behind front (record { id = id; first_line = first; messages = all } ∷ streams_of events) none ∙ here)
