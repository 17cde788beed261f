-- A message is broken where the rule for streams does not let it come.
use Rattle.std.proofs.Common.{◌≡◌, ℕ, ◌+◌, not, false, if◌then◌else◌, List, [], ◌∷◌, Option, Some, None, Result, Ok, Err, is_some, refl, ap, ◌∙◌}
use Rattle.std.specs.Option.{option_and_then, option_map, option_or}
use Rattle.input_types.specs.declared.message.Message.{Message as Told}
use Rattle.input_types.specs.StreamRule.{StreamState, after_body, stream_state, unsent}
use Rattle.gesture_verifier.specs.declared.reason.Reason.{Reason}
use Rattle.gesture_verifier.specs.Reasons.{reason_of}
use Rattle.stream_judge.specs.Breaks.{break_from, first_break}
use Rattle.stream_judge.specs.Placed.{ArePlaced, Places}
use Rattle.stream_judge.proofs.Placed.{placed_of}
use Rattle.stream_judge.proofs.Spelled.{exact}
use Rattle.stream_text.specs.declared.stream_line.StreamLine.{StreamLine}
use Rattle.stream_text.specs.declared.stream_line.StreamLine.TheVariants.{Channel, Message, End, Anr}
use Rattle.stream_text.specs.declared.reading.stream_lines.Place.{Place}
use Rattle.stream_text.specs.declared.reading.stream_lines.Place.TheVariants.{Between}
use Rattle.stream_text.specs.MessageLine.{HasSpelling}
use Rattle.stream_text.specs.StreamFile.{Event, Stream, events_of, messages_of, streams_in, streams_of}
use Rattle.judge_text.specs.Broken.{broken_from, first_broken, reason_behind}

-- behind what a window knows, a message has the reason that it has there
pub reason_there : (past : List Told) (s : StreamState) (m : Told) → stream_state past ≡ Some s → reason_behind past m ≡ reason_of s m.body
reason_there past s m is = ap (λ o. option_and_then (λ t. reason_of t m.body) o) is

pub state_there : (past : List Told) (s : StreamState) (m : Told) → stream_state past ≡ Some s → stream_state (m ∷ past) ≡ after_body s m.body
state_there past s m is = ap (λ o. option_and_then (λ t. after_body t m.body) o) is

-- a message that comes has none
pub none_of : {A : Type 0} (o : Option A) → is_some o ≡ false → o ≡ None
none_of None h = refl
none_of (Some x) h = absurd (cc)

pub comes : (past : List Told) (s t : StreamState) (m : Told) → stream_state past ≡ Some s → HasSpelling m → after_body s m.body ≡ Some t → reason_behind past m ≡ None
comes past s t m is spelled after =
    reason_there past s m is ∙ none_of (reason_of s m.body) (exact s m.body spelled.body ∙ ap (λ o. not (is_some o)) after)

-- and one that is refused is reported with its reason
pub told : (n : ℕ) (old : Option (ℕ × Reason)) (o behind : Option Reason) (why : Reason) → old ≡ None → behind ≡ o → o ≡ Some why
    → Some (n, why) ≡ option_or old (option_map (λ r. (n, r)) behind)
told n old o behind why none is there = rw (none, is, there) refl

-- messages that have a spelling
abbrev AreSpelled : List Told → Type 0
AreSpelled [] = Unit {0}
AreSpelled (m ∷ ms) = HasSpelling m × AreSpelled ms

one : (line : ℕ) (o : Option Reason) (a : Option StreamState) (later : Option (ℕ × Reason)) (rest : Option ℕ) → is_some o ≡ not (is_some a)
    → ((t : StreamState) → a ≡ Some t → option_map (λ b. b.0) later ≡ rest)
    → option_map (λ b. b.0) (option_or (option_map (λ why. (line, why)) o) later) ≡ (if is_some a then rest else Some line)
one line None None later rest e h = absurd (cc)
one line None (Some t) later rest e h = h t refl
one line (Some why) None later rest e h = refl
one line (Some why) (Some t) later rest e h = absurd (cc)

breaks_alike : (line : ℕ) (past ms : List Told) (s : StreamState) → stream_state past ≡ Some s → AreSpelled ms
    → option_map (λ b. b.0) (broken_from line past ms) ≡ break_from line past ms
breaks_alike line past [] s is spelled = refl
breaks_alike line past (m ∷ ms) s is spelled =
    let there = state_there past s m is in
    rw (reason_there past s m is, there)
    (one line (reason_of s m.body) (after_body s m.body) (broken_from (line + 1) (m ∷ past) ms) (break_from (line + 1) (m ∷ past) ms) (exact s m.body (spelled.0).body)
    (λ t after. breaks_alike (line + 1) (m ∷ past) ms t (there ∙ after) (spelled.1)))

-- ---- the streams of a file

spelled_at : (says : StreamLine) (place : Place) (n : ℕ) (k : ℕ) (es : List Event) → ArePlaced place n ((k, says) ∷ es) → AreSpelled (messages_of es) → AreSpelled (messages_of ((k, says) ∷ es))
spelled_at (Channel id) place n k es p h = tt
spelled_at (Message m) place n k es p h = (p.1, h)
spelled_at (End id sent received finished) place n k es p h = tt
spelled_at (Anr clock id seq) place n k es p h = tt

all_spelled : (es : List Event) (place : Place) (n : ℕ) → ArePlaced place n es → AreSpelled (messages_of es)
all_spelled [] place n p = tt
all_spelled ((k, says) ∷ es) place n p = spelled_at says place n k es p (all_spelled es p.2.0 (n + 1) p.2.2)

joined : (a b : Option (ℕ × Reason)) (c d : Option ℕ) → option_map (λ x. x.0) a ≡ c → option_map (λ x. x.0) b ≡ d → option_map (λ x. x.0) (option_or a b) ≡ option_or c d
joined None b c d e f = rw (← e) f
joined (Some x) b c d e f = rw (← e) refl

first_at : (says : StreamLine) (k : ℕ) (es : List Event) → AreSpelled (messages_of es) → option_map (λ b. b.0) (first_broken (streams_of es)) ≡ first_break (streams_of es)
    → option_map (λ b. b.0) (first_broken (streams_of ((k, says) ∷ es))) ≡ first_break (streams_of ((k, says) ∷ es))
first_at (Channel id) k es spelled h =
    joined (broken_from (k + 1) [] (messages_of es)) (first_broken (streams_of es)) (break_from (k + 1) [] (messages_of es)) (first_break (streams_of es))
    (breaks_alike (k + 1) [] (messages_of es) unsent refl spelled) h
first_at (Message m) k es spelled h = h
first_at (End id sent received finished) k es spelled h = h
first_at (Anr clock id seq) k es spelled h = h

firsts : (es : List Event) (place : Place) (n : ℕ) → ArePlaced place n es → option_map (λ b. b.0) (first_broken (streams_of es)) ≡ first_break (streams_of es)
firsts [] place n p = refl
firsts ((k, says) ∷ es) place n p = first_at says k es (all_spelled es p.2.0 (n + 1) p.2.2) (firsts es p.2.0 (n + 1) p.2.2)

of_file : (r : Result (List Event) ℕ) (n : ℕ) (streams : List Stream) → Places Between n r → streams_in r ≡ Ok streams
    → option_map (λ b. b.0) (first_broken streams) ≡ first_break streams
of_file (Ok es) n streams p is = let same : streams_of es ≡ streams = cc in rw (← same) (firsts es Between n p)
of_file (Err bad) n streams p is = absurd (cc)

pub same_breaks : (bytes : List ℕ) (streams : List Stream) → streams_in (events_of bytes) ≡ Ok streams
    → option_map (λ b. b.0) (first_broken streams) ≡ first_break streams
same_breaks bytes streams is = let (n, p) = placed_of bytes in of_file (events_of bytes) n streams p is
