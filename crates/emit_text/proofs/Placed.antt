-- The lines of a stream file are numbered one after another, and its messages are in sections.
use Rattle.std.proofs.Common.{◌≡◌, ℕ, ◌+◌, ◌==◌, ◌&&◌, Bool, true, false, if◌then◌else◌, List, [], ◌∷◌, Option, Some, None, Result, Ok, Err, refl}
use Rattle.stream_text.specs.declared.stream_line.StreamLine.{StreamLine}
use Rattle.stream_text.specs.declared.stream_line.StreamLine.TheVariants.{Channel, Message, End, Anr}
use Rattle.stream_text.specs.declared.reading.stream_lines.Place.{Place}
use Rattle.stream_text.specs.declared.reading.stream_lines.Place.TheVariants.{Between, Section, Anrs}
use Rattle.stream_text.specs.Number.{◌>>=◌}
use Rattle.stream_text.specs.OrderText.{order_passed}
use Rattle.stream_text.specs.StreamFile.{Event, events_behind, events_from, events_of, follow, may_end, numbered_line, told, with_event}
use Rattle.stream_text.specs.StreamLine.{line_of}
use Rattle.text_lines.specs.Lines.{Line, lines_of}

-- a line may stand inside a section, or outside of all, and so may those behind it
abbrev pub MayStand : Bool → StreamLine → (Bool → Type 0) → Type 0
MayStand false (Channel id) Rest = Rest true
MayStand false (Anr clock id seq) Rest = Rest false
MayStand true (Message m) Rest = Rest true
MayStand true (End id sent received finished) Rest = Rest false
MayStand _ _ Rest = ⊥

-- lines from line n on, of which the first stands inside a section or outside
abbrev pub ArePlaced : Bool → ℕ → List Event → Type 0
ArePlaced inside n [] = Unit {0}
ArePlaced inside n (e ∷ es) = (e.0 ≡ n) × MayStand inside e.1 (λ b. ArePlaced b (n + 1) es)

abbrev pub Places : Bool → ℕ → Result (List Event) ℕ → Type 0
Places inside n (Ok es) = ArePlaced inside n es
Places inside n (Err bad) = Unit {0}

abbrev is_inside : Place → Bool
is_inside Between = false
is_inside (Section id told) = true
is_inside Anrs = false

one_line : (inside b : Bool) (n : ℕ) (says : StreamLine) (r : Result (List Event) ℕ) → ((Rest : Bool → Type 0) → Rest b → MayStand inside says Rest)
    → Places b (n + 1) r → Places inside n (with_event (n, says) r)
one_line inside b n says (Ok es) may h = (refl, may (λ c. ArePlaced c (n + 1) es) h)
one_line inside b n says (Err bad) may h = tt

-- the lines from here on
abbrev Follows : ℕ → List Line → Type 0
Follows n lines = (next : Place) → Places (is_inside next) (n + 1) (events_from next (n + 1) lines)

abbrev step_from : ℕ → List Line → Option (StreamLine × Place) → Result (List Event) ℕ
step_from n lines o = numbered_line n o (λ next. events_from next (n + 1) lines)

message_step : (n id count : ℕ) (says : StreamLine) (lines : List Line) (b : Bool) → ((Rest : Bool → Type 0) → Rest true → MayStand true says Rest) → Follows n lines
    → Places true n (step_from n lines ((if b then Some (Section id (count + 1)) else None) >>= λ next. Some (says, next)))
message_step n id count says lines true may follows = one_line true true n says (events_from (Section id (count + 1)) (n + 1) lines) may (follows (Section id (count + 1)))
message_step n id count says lines false may follows = tt

end_step : (n : ℕ) (says : StreamLine) (lines : List Line) (b : Bool) → ((Rest : Bool → Type 0) → Rest false → MayStand true says Rest) → Follows n lines
    → Places true n (step_from n lines ((if b then Some Between else None) >>= λ next. Some (says, next)))
end_step n says lines true may follows = one_line true false n says (events_from Between (n + 1) lines) may (follows Between)
end_step n says lines false may follows = tt

line_step : (place : Place) (n : ℕ) (says : StreamLine) (lines : List Line) → Follows n lines
    → Places (is_inside place) n (step_from n lines (follow place says >>= λ next. Some (says, next)))
line_step Between n (Channel id) lines follows = one_line false true n (Channel id) (events_from (Section id 0) (n + 1) lines) (λ R r. r) (follows (Section id 0))
line_step Between n (Message m) lines follows = tt
line_step Between n (End e sent received finished) lines follows = tt
line_step Between n (Anr clock id seq) lines follows = one_line false false n (Anr clock id seq) (events_from Anrs (n + 1) lines) (λ R r. r) (follows Anrs)
line_step (Section id count) n (Channel other) lines follows = tt
line_step (Section id count) n (Message m) lines follows = message_step n id count (Message m) lines (m.seq == count + 1) (λ R r. r) follows
line_step (Section id count) n (End e sent received finished) lines follows = end_step n (End e sent received finished) lines ((e == id) && (sent == count)) (λ R r. r) follows
line_step (Section id count) n (Anr clock other seq) lines follows = tt
line_step Anrs n (Channel id) lines follows = tt
line_step Anrs n (Message m) lines follows = tt
line_step Anrs n (End e sent received finished) lines follows = tt
line_step Anrs n (Anr clock id seq) lines follows = one_line false false n (Anr clock id seq) (events_from Anrs (n + 1) lines) (λ R r. r) (follows Anrs)

read_step : (place : Place) (n : ℕ) (o : Option StreamLine) (lines : List Line) → Follows n lines
    → Places (is_inside place) n (step_from n lines (o >>= λ says. follow place says >>= λ next. Some (says, next)))
read_step place n None lines follows = tt
read_step place n (Some says) lines follows = line_step place n says lines follows

ended_step : (place : Place) (n : ℕ) (text : List ℕ) (b : Bool) (lines : List Line) → Follows n lines
    → Places (is_inside place) n (step_from n lines (told place (text, b)))
ended_step place n text true lines follows = read_step place n (line_of text) lines follows
ended_step place n text false lines follows = tt

no_lines : (place : Place) (n : ℕ) → Places (is_inside place) n (if may_end place then Ok [] else Err n)
no_lines Between n = tt
no_lines (Section id count) n = tt
no_lines Anrs n = tt

placed : (lines : List Line) (place : Place) (n : ℕ) → Places (is_inside place) n (events_from place n lines)
placed [] place n = no_lines place n
placed (line ∷ lines) place n = ended_step place n line.0 line.1 lines (λ next. placed lines next (n + 1))

placed_front : (front : Result (ℕ × List Line) ℕ) → (n : ℕ) × Places false n (events_behind front)
placed_front (Ok front) = (front.0, placed front.1 Between front.0)
placed_front (Err bad) = (0, tt)

pub placed_of : (bytes : List ℕ) → (n : ℕ) × Places false n (events_of bytes)
unfolding events_of
placed_of bytes = placed_front (order_passed (lines_of bytes))
