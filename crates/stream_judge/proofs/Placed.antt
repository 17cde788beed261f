-- The lines of a stream file are where they may be.
use Rattle.std.proofs.Common.{◌≡◌, ℕ, ◌+◌, Bool, true, false, if◌then◌else◌, List, [], ◌∷◌, Option, Some, None, Result, Ok, Err, refl}
use Rattle.stream_text.specs.declared.stream_line.StreamLine.{StreamLine}
use Rattle.stream_text.specs.declared.reading.stream_lines.Place.{Place}
use Rattle.stream_text.specs.declared.reading.stream_lines.Place.TheVariants.{Between}
use Rattle.stream_text.specs.Number.{◌>>=◌}
use Rattle.stream_text.specs.OrderText.{order_passed}
use Rattle.stream_text.specs.StreamFile.{Event, events_behind, events_from, events_of, follow, may_end, numbered_line, told, with_event}
use Rattle.stream_text.specs.StreamLine.{CanSay, line_of}
use Rattle.stream_text.proofs.LineTexts.{can_say, line_only}
use Rattle.text_lines.specs.Lines.{Line, lines_of}
use Rattle.stream_judge.specs.Placed.{Places}

-- the lines from here on
abbrev Follows : ℕ → List Line → Type 0
Follows n lines = (next : Place) → Places next (n + 1) (events_from next (n + 1) lines)

abbrev step_from : ℕ → List Line → Option (StreamLine × Place) → Result (List Event) ℕ
step_from n lines o = numbered_line n o (λ next. events_from next (n + 1) lines)

one_line : (place next : Place) (n : ℕ) (says : StreamLine) (r : Result (List Event) ℕ) → CanSay says → follow place says ≡ Some next → Places next (n + 1) r
    → Places place n (with_event (n, says) r)
one_line place next n says (Ok es) can f h = (refl, can, (next, f, h))
one_line place next n says (Err bad) can f h = tt

followed : (place : Place) (n : ℕ) (says : StreamLine) (lines : List Line) (o : Option Place) → follow place says ≡ o → CanSay says → Follows n lines
    → Places place n (step_from n lines (o >>= λ next. Some (says, next)))
followed place n says lines None f can follows = tt
followed place n says lines (Some next) f can follows = one_line place next n says (events_from next (n + 1) lines) can f (follows next)

read : (place : Place) (n : ℕ) (text : List ℕ) (lines : List Line) (o : Option StreamLine) → line_of text ≡ o → Follows n lines
    → Places place n (step_from n lines (o >>= λ says. follow place says >>= λ next. Some (says, next)))
read place n text lines None is follows = tt
read place n text lines (Some says) is follows = followed place n says lines (follow place says) refl (can_say text says (line_only text says is)) follows

ended : (place : Place) (n : ℕ) (text : List ℕ) (b : Bool) (lines : List Line) → Follows n lines → Places place n (step_from n lines (told place (text, b)))
ended place n text true lines follows = read place n text lines (line_of text) refl follows
ended place n text false lines follows = tt

no_lines : (place : Place) (n : ℕ) (b : Bool) → may_end place ≡ b → Places place n (if b then Ok [] else Err n)
no_lines place n true h = h
no_lines place n false h = tt

placed : (lines : List Line) (place : Place) (n : ℕ) → Places place n (events_from place n lines)
placed [] place n = no_lines place n (may_end place) refl
placed (line ∷ lines) place n = ended place n line.0 line.1 lines (λ next. placed lines next (n + 1))

placed_front : (front : Result (ℕ × List Line) ℕ) → (n : ℕ) × Places Between n (events_behind front)
placed_front (Ok front) = (front.0, placed front.1 Between front.0)
placed_front (Err bad) = (0, tt)

-- those of a file's bytes
pub placed_of : (bytes : List ℕ) → (n : ℕ) × Places Between n (events_of bytes)
unfolding events_of
placed_of bytes = placed_front (order_passed (lines_of bytes))
