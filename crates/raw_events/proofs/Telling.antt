-- What lines say, line by line and piece by piece.
use Rattle.std.proofs.Common.{◌≡◌, ℕ, ◌≤◌, List, [], ◌∷◌, ◌++◌, length, take, drop, Ok, Err, ap, sym, ◌∙◌, arith}
use Rattle.std.proofs.lemmas.List.{append_assoc, append-nil, take-append-le, take-append-drop, length-take}
use Rattle.raw_events.specs.declared.event.RawEvent.{RawEvent}
use Rattle.raw_events.specs.declared.event.LineError.{LineError}
use Rattle.raw_events.specs.declared.event.LineError.TheVariants as errors
use Rattle.raw_events.specs.declared.line.Line.{Line}
use Rattle.raw_events.specs.declared.line.Line.TheVariants.{Event}
use Rattle.raw_events.specs.Line.{Known, judged}
use Rattle.raw_events.specs.Recording.{next_number}
use Rattle.raw_events.specs.Pieces.{Told, with_told, tell}
use Rattle.raw_events.specs.Kept.{behind, TellsLine, TellsLines}

-- an event more
pub told_event : (before : List RawEvent) (event : RawEvent) (n : ℕ) (told : Told) → behind (before ++ event ∷ []) told ≡ behind before (with_told (Event event) n told)
told_event before event n told = ap (λ es. record { events = es; next = told.next }) (append_assoc before (event ∷ []) told.events)

pub told_refused : (before : List RawEvent) (n : ℕ) (cause : LineError) → record { events = before; next = Err cause } ≡ behind before (record { events = []; next = Err cause })
told_refused before n cause = ap (λ es. record { events = es; next = Err cause }) (sym (append-nil before))

-- what begins with xs still does with more behind it
pub begins_more : {X : Type 0} (xs ys zs : List X) → take (length xs) ys ≡ xs → take (length xs) (ys ++ zs) ≡ xs
begins_more xs ys zs h =
    let within : length xs ≤ length ys = omega (arith, ap length h, length-take (length xs) ys) in
    rw take-append-le h

pub begins_both : {X : Type 0} (xs ys zs : List X) → take (length xs) ys ≡ xs → take (length ys) zs ≡ ys → take (length xs) zs ≡ xs
begins_both xs ys zs h k =
    let whole : ys ++ drop (length ys) zs ≡ zs = ap (λ us. us ++ drop (length ys) zs) (sym k) ∙ take-append-drop (length ys) zs in
    rw (← whole) (begins_more xs ys (drop (length ys) zs) h)

-- what stands in front of what a line says
line_added : (line : Line) (next n : ℕ) (mid after : List RawEvent) → TellsLine (Ok next) line n mid after → (es : List RawEvent) × (after ≡ mid ++ es)
line_added line next n mid after t =
    let told : Told = record { events = []; next = Ok 0 } in
    ((with_told line n told).events, sym (append-nil after) ∙ ap (λ s. s.events) (t.1 told))

pub line_begins : (before mid after : List RawEvent) (line : Line) (next n : ℕ) → TellsLine (Ok next) line n mid after → take (length before) mid ≡ before → take (length before) after ≡ before
line_begins before mid after line next n t h = let a = line_added line next n mid after t in rw a.1 (begins_more before mid a.0 h)

pub line_told : (devices : Known) (line : List ℕ) (lines : List (List ℕ)) (next n : ℕ) (mid after : List RawEvent) → TellsLine (Ok next) (judged devices line) n mid after
    → behind after (tell devices next lines) ≡ behind mid (tell devices n (line ∷ lines))
line_told devices line lines next n mid after t = rw (t.0) (t.1 (tell devices (next_number n) lines))

-- a line that is refused, or for which memory ran out, behind lines that were sent
pub line_stopped : (devices : Known) (line : List ℕ) (lines : List (List ℕ)) (error : LineError) (n : ℕ) (all : Told) (before mid after : List RawEvent)
    → TellsLine (Err error) (judged devices line) n mid after → behind mid (tell devices n (line ∷ lines)) ≡ behind before all → take (length before) mid ≡ before
    → TellsLines (Err error) all before after
line_stopped devices line lines (errors.BadLine m) n all before mid after t same h = t (tell devices (next_number n) lines) ∙ same
line_stopped devices line lines (errors.NoMoment m) n all before mid after t same h = t (tell devices (next_number n) lines) ∙ same
line_stopped devices line lines (errors.TooLong m) n all before mid after t same h = t (tell devices (next_number n) lines) ∙ same
line_stopped devices line lines errors.Memory n all before mid after t same h = rw t h

-- lines that were sent up to a refusal, behind lines that were sent
pub front_stopped : (error : LineError) (told all : Told) (before mid after : List RawEvent) → TellsLines (Err error) told mid after → behind mid told ≡ behind before all → take (length before) mid ≡ before
    → TellsLines (Err error) all before after
front_stopped (errors.BadLine m) told all before mid after t same h = t ∙ same
front_stopped (errors.NoMoment m) told all before mid after t same h = t ∙ same
front_stopped (errors.TooLong m) told all before mid after t same h = t ∙ same
front_stopped errors.Memory told all before mid after t same h = begins_both before mid after h t
