-- The lines of a file are numbered one after another.
use Rattle.std.proofs.Common.{◌≡◌, ℕ, ◌+◌, Bool, true, false, if◌then◌else◌, List, [], ◌∷◌, Option, Some, None, Result, Ok, Err, refl}
use Rattle.stream_text.specs.declared.stream_line.StreamLine.{StreamLine}
use Rattle.stream_text.specs.declared.reading.stream_lines.Place.{Place}
use Rattle.stream_text.specs.declared.reading.stream_lines.Place.TheVariants.{Between}
use Rattle.stream_text.specs.OrderText.{order_passed}
use Rattle.stream_text.specs.StreamFile.{Event, events_behind, events_from, events_of, may_end, numbered_line, told, with_event}
use Rattle.text_lines.specs.Lines.{Line, lines_of}
use Rattle.stream_judge.specs.Judged.{Numbers}

at_end : (n : ℕ) (v : Bool) → Numbers n (if v then Ok [] else Err n)
at_end n true = tt
at_end n false = tt

one_line : (n : ℕ) (says : StreamLine) (r : Result (List Event) ℕ) → Numbers (n + 1) r → Numbers n (with_event (n, says) r)
one_line n says (Ok events) h = (refl, h)
one_line n says (Err bad) h = tt

line_then : (n : ℕ) (says : Option (StreamLine × Place)) (behind : Place → Result (List Event) ℕ) → ((next : Place) → Numbers (n + 1) (behind next))
    → Numbers n (numbered_line n says behind)
line_then n None behind h = tt
line_then n (Some says) behind h = one_line n says.0 (behind says.1) (h says.1)

lines_numbered : (place : Place) (n : ℕ) (lines : List Line) → Numbers n (events_from place n lines)
lines_numbered place n [] = at_end n (may_end place)
lines_numbered place n (line ∷ lines) = line_then n (told place line) (λ next. events_from next (n + 1) lines) (λ next. lines_numbered next (n + 1) lines)

front_numbered : (front : Result (ℕ × List Line) ℕ) → (n : ℕ) × Numbers n (events_behind front)
front_numbered (Ok front) = (front.0, lines_numbered Between front.0 front.1)
front_numbered (Err bad) = (0, tt)

pub numbers_of : (bytes : List ℕ) → (n : ℕ) × Numbers n (events_of bytes)
unfolding events_of
numbers_of bytes = front_numbered (order_passed (lines_of bytes))
