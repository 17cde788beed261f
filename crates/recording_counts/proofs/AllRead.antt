-- The lines of a recording that is not refused are all read, and give its events.
use Rattle.std.proofs.Common.{◌≡◌, ℕ, ◌+◌, ◌≤◌, Bool, true, false, cond, List, [], ◌∷◌, ◌++◌, length, filter, reverse, Ok, sym, subst, ap, refl, arith, length-append}
use Rattle.std.specs.Prelude.{Result}
use Rattle.std.proofs.lemmas.List.{reverse-append}
use Rattle.raw_events.specs.declared.event.RawEvent.{RawEvent}
use Rattle.raw_events.specs.declared.event.LineError.{LineError}
use Rattle.raw_events.specs.Line.{Known}
use Rattle.raw_events.specs.Recording.{next_number, events_from}
use Rattle.raw_events.proofs.LineByLine.{GivesFirst, gives_first}
use Rattle.recording_counts.specs.Lines.{AreRead, IsRead, given_by, gives, is_event_line}

read_where : (given : Result (List RawEvent) LineError) (events : List RawEvent) → given ≡ Ok events → IsRead given
read_where given events h = subst IsRead (sym h) tt

-- none of them is refused
pub all_read : (devices : Known) (n : ℕ) (lines : List (List ℕ)) (events : List RawEvent) → events_from devices n lines ≡ Ok events → AreRead devices lines
all_read devices n [] events h = tt
all_read devices n (line ∷ lines) events h =
    let g : GivesFirst devices n line lines events = gives_first devices n line lines events h in
    (read_where (given_by devices line) g.front g.alone, all_read devices (next_number n) lines g.behind g.others)

both_read : (devices : Known) (lines more : List (List ℕ)) → AreRead devices lines → AreRead devices more → AreRead devices (lines ++ more)
both_read devices [] more h k = k
both_read devices (line ∷ lines) more h k = (h.0, both_read devices lines more h.1 k)

-- nor is one of them in the other order
pub read_back : (devices : Known) (lines : List (List ℕ)) → AreRead devices lines → AreRead devices (reverse lines)
read_back devices [] h = tt
read_back devices (line ∷ lines) h = subst (λ (ls : List (List ℕ)). AreRead devices ls) (sym (reverse-append (line ∷ []) lines)) (both_read devices (reverse lines) (line ∷ []) (read_back devices lines h.1) (h.0, tt))

-- 1 where it is so
abbrev one_if : Bool → ℕ
one_if b = cond b 1 0

gives_one : (front : List RawEvent) → length front ≤ 1 → length front ≡ one_if (gives (Ok front))
gives_one [] h = refl
gives_one (event ∷ []) h = refl
gives_one (event ∷ more ∷ events) h = absurd (omega (arith, h))

event_more : (devices : Known) (line : List ℕ) (lines : List (List ℕ)) → length (filter (is_event_line devices) (line ∷ lines)) ≡ one_if (is_event_line devices line) + length (filter (is_event_line devices) lines)
event_more devices line lines = by_test (is_event_line devices line)
  where
    by_test : (b : Bool) → length (cond b (line ∷ filter (is_event_line devices) lines) (filter (is_event_line devices) lines)) ≡ one_if b + length (filter (is_event_line devices) lines)
    by_test true = omega arith
    by_test false = omega arith

-- as many events as lines that give one
pub as_many_events : (devices : Known) (n : ℕ) (lines : List (List ℕ)) (events : List RawEvent) → events_from devices n lines ≡ Ok events
    → length events ≡ length (filter (is_event_line devices) lines)
as_many_events devices n [] events h = let none : [] ≡ events = cc in ap length (sym none)
as_many_events devices n (line ∷ lines) events h =
    let g : GivesFirst devices n line lines events = gives_first devices n line lines events h in
    let here : length g.front ≡ one_if (is_event_line devices line) = subst (λ given. length g.front ≡ one_if (gives given)) (sym g.alone) (gives_one g.front g.at_most_one) in
    omega (arith, ap length g.joined, length-append g.front g.behind, here, as_many_events devices (next_number n) lines g.behind g.others, event_more devices line lines)
