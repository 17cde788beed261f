-- Streams that were read, in front of what is left of a file.
use Rattle.std.proofs.Common.{◌≡◌, ℕ, ◌+◌, ◌≤◌, List, [], ◌∷◌, ◌++◌, Option, Some, None, Result, Ok, Err, refl, sym, ap, ◌∙◌, arith}
use Rattle.std.proofs.lemmas.List.{append_assoc}
use Rattle.input_types.specs.declared.message.Message.{Message as Told}
use Rattle.stream_text.specs.declared.stream_line.StreamLine.{StreamLine}
use Rattle.stream_text.specs.declared.stream_line.StreamLine.TheVariants.{Channel, Message, End, Anr}
use Rattle.stream_text.specs.declared.stream_error.StreamError.{StreamError}
use Rattle.stream_text.specs.declared.stream_error.StreamError.TheVariants.{BadLine, Memory}
use Rattle.stream_text.specs.StreamFile.{Event, Goes, Stream, Unread, streams_in, streams_of, messages_of, with_event}
use Rattle.stream_text.specs.StreamAnswer.{ReadsSection, Finds, behind, channel_sent, message_sent, opened, pending, with_stream}

-- a line that was found, and what is left
pub goes_behind : (old : Unread) (line : Option Event) (new : Unread) → Goes old (Ok line) new → (old.events ≡ behind line new.events) × (new.left + pending line ≤ old.left)
goes_behind old None new h = (h.0, let e : new.left ≡ old.left = ap (λ u. u.left) h.1 in omega arith)
goes_behind old (Some event) new h = (h.0, omega (arith, h.1))

append-nil : (ms : List Told) → ms ++ [] ≡ ms
append-nil [] = refl
append-nil (m ∷ ms) = ap (λ t. m ∷ t) (append-nil ms)

sent_ok : (id first : ℕ) (front ms : List Told) (m : Told) (streams : List Stream)
    → ◌≡◌ {A = Result (List Stream) ℕ} (Ok (record { id = id; first_line = first; messages = front ++ m ∷ ms } ∷ streams)) (Ok (record { id = id; first_line = first; messages = (front ++ m ∷ []) ++ ms } ∷ streams))
sent_ok id first front ms m streams = ap (λ (t : List Told). Ok (record { id = id; first_line = first; messages = t } ∷ streams)) (sym (append_assoc front (m ∷ []) ms))

opened_message : (id first n : ℕ) (front : List Told) (m : Told) (left : Result (List Event) ℕ)
    → opened id first front (with_event (n, Message m) left) ≡ opened id first (front ++ m ∷ []) left
opened_message id first n front m (Ok events) = sent_ok id first front (messages_of events) m (streams_of events)
opened_message id first n front m (Err bad) = refl

-- a message of an open section
pub opened_more : (id first : ℕ) (front : List Told) (m : Told) (line : Option Event) (left : Result (List Event) ℕ) → message_sent line ≡ Some m
    → opened id first front (behind line left) ≡ opened id first (front ++ m ∷ []) left
opened_more id first front m None left e = cc e
opened_more id first front m (Some (n, Message k)) left e =
    let same : k ≡ m = cc e in
    opened_message id first n front k left ∙ ap (λ x. opened id first (front ++ x ∷ []) left) same
opened_more id first front m (Some (n, Channel c)) left e = cc e
opened_more id first front m (Some (n, End c s r f)) left e = cc e
opened_more id first front m (Some (n, Anr c i s)) left e = cc e

no_more : (id first : ℕ) (front : List Told) (streams : List Stream)
    → ◌≡◌ {A = Result (List Stream) ℕ} (Ok (record { id = id; first_line = first; messages = front ++ [] } ∷ streams)) (Ok (record { id = id; first_line = first; messages = front } ∷ streams))
no_more id first front streams = ap (λ (t : List Told). Ok (record { id = id; first_line = first; messages = t } ∷ streams)) (append-nil front)

other_line : (id first : ℕ) (front : List Told) (event : Event) (left : Result (List Event) ℕ) → message_sent (Some event) ≡ None
    → opened id first front (with_event event left) ≡ with_stream (record { id = id; first_line = first; messages = front }) (streams_in (with_event event left))
other_line id first front event (Err bad) e = refl
other_line id first front (n, Message k) (Ok events) e = cc e
other_line id first front (n, Channel c) (Ok events) e = no_more id first front (streams_of ((n, Channel c) ∷ events))
other_line id first front (n, End c s r f) (Ok events) e = no_more id first front (streams_of events)
other_line id first front (n, Anr c i s) (Ok events) e = no_more id first front (streams_of events)

-- the end of the messages of a section
pub opened_end : (id first : ℕ) (front : List Told) (line : Option Event) (left : Result (List Event) ℕ) → message_sent line ≡ None
    → opened id first front (behind line left) ≡ with_stream (record { id = id; first_line = first; messages = front }) (streams_in (behind line left))
opened_end id first front None left e = no_more id first front []
opened_end id first front (Some event) left e = other_line id first front event left e

-- where a bad line comes, it comes first of all
pub opened_bad : (id first bad : ℕ) (left : Result (List Event) ℕ) → opened id first [] left ≡ Err bad → left ≡ Err bad
opened_bad id first bad (Ok events) e = cc e
opened_bad id first bad (Err other) e = cc e

pub begins_bad : (old here new : Result (List Event) ℕ) (front : List Told) (error : StreamError) → Finds here (Err error) new
    → ((id first : ℕ) → opened id first front here ≡ opened id first [] old) → ReadsSection old (Err error) new
begins_bad old here new front Memory h same = absurd h
begins_bad old here new front (BadLine bad) h same = opened_bad 0 0 bad old (sym (same 0 0) ∙ ap (opened 0 0 front) h)

abbrev pub before : List Stream → Result (List Stream) ℕ → Result (List Stream) ℕ
before front (Ok streams) = Ok (front ++ streams)
before front (Err bad) = Err bad

pub before_none : (streams : Result (List Stream) ℕ) → before [] streams ≡ streams
before_none (Ok streams) = refl
before_none (Err bad) = refl

pub before_more : (front : List Stream) (stream : Stream) (streams : Result (List Stream) ℕ) → before front (with_stream stream streams) ≡ before (front ++ stream ∷ []) streams
before_more front stream (Ok streams) = ap (λ t. Ok t) (sym (append_assoc front (stream ∷ []) streams))
before_more front stream (Err bad) = refl

-- a line that begins a section opens it
pub channel_opens : (id n : ℕ) (says : StreamLine) (left : Result (List Event) ℕ) → channel_sent says ≡ Some id → streams_in (with_event (n, says) left) ≡ opened id (n + 1) [] left
channel_opens id n (Channel c) (Ok events) e =
    let same : c ≡ id = cc e in ap (λ (k : ℕ). Ok (record { id = k; first_line = n + 1; messages = messages_of events } ∷ streams_of events)) same
channel_opens id n (Channel c) (Err bad) e = refl
channel_opens id n (Message m) left e = cc e
channel_opens id n (End c s r f) left e = cc e
channel_opens id n (Anr c i s) left e = cc e

-- any other line adds no stream
pub others_add_none : (n : ℕ) (says : StreamLine) (left : Result (List Event) ℕ) → channel_sent says ≡ None → streams_in (with_event (n, says) left) ≡ streams_in left
others_add_none n says (Err bad) e = refl
others_add_none n (Channel c) (Ok events) e = cc e
others_add_none n (Message m) (Ok events) e = refl
others_add_none n (End c s r f) (Ok events) e = refl
others_add_none n (Anr c i s) (Ok events) e = refl
