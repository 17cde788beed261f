-- The least and the greatest moment of events, and the events whose clock went back. Events are newest first.
use Rattle.std.specs.Prelude.{ℕ, min, max, nat_lt, Bool, false, List, [], ◌∷◌, Option, Some, None, if◌then◌else◌}
use Rattle.std.specs.List.{list_any}
use Rattle.raw_events.specs.declared.event.RawEvent.{RawEvent}
use Rattle.recording_counts.specs.declared.moments.Span.{Span}

-- the least and the greatest moment, with one more
abbrev pub widened : Option Span → ℕ → Span
widened None moment = record { first = moment; last = moment }
widened (Some span) moment = record { first = min span.first moment; last = max span.last moment }

-- the least and the greatest moment of some events, where there are any
abbrev pub span_of : List RawEvent → Option Span
span_of [] = None
span_of (e ∷ past) = Some (widened (span_of past) e.moment)

-- a moment is below the greatest one so far
abbrev pub is_below : Option Span → ℕ → Bool
is_below None moment = false
is_below (Some span) moment = nat_lt moment span.last

-- the events whose moment is below that of some event before them
abbrev pub back_events : List RawEvent → List RawEvent
back_events [] = []
back_events (e ∷ past) = if list_any (λ p. nat_lt e.moment p.moment) past then e ∷ back_events past else back_events past
