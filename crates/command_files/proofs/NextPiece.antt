-- One more piece of a recording, and its end.
use Rattle.std.proofs.Common.{◌≡◌, ℕ, false, List, ◌++◌, Result, Ok, Err, OnOk, refl, ap, sym, subst, reverse, ◌∙◌, []}
use Rattle.std.proofs.lemmas.List.{append_assoc, append-nil, reverse-append, reverse-reverse}
use Rattle.raw_events.specs.declared.event.RawEvent.{RawEvent}
use Rattle.raw_events.specs.declared.event.LineError.{LineError}
use Rattle.raw_events.specs.declared.event.LineError.TheVariants as errors
use Rattle.raw_events.specs.Line.{Known}
use Rattle.raw_events.specs.Recording.{recorded}
use Rattle.raw_events.specs.Pieces.{Place, Reader, fed, finished, Does, answered, with_events, still, still_at}
use Rattle.raw_events.proofs.Cuts.{IsBegun, fed_begun, piece_read, refused_there, end_read, end_refused}
use Rattle.std.specs.declared.alloc.AllocError.{AllocError}
use Rattle.dispatch_history.specs.Plan.{Plan, Cooked}
use Rattle.device_reader.specs.All.{ReadersState}
use Rattle.device_reader.specs.CookedList.{ReadersStandFor}
use Rattle.session_plan.specs.Plan.{PlanData}
use Rattle.schedule.specs.declared.plan.Plan.{Plan as RunPlan}
use Rattle.schedule.specs.Planned.{plan_of}
use Rattle.schedule.specs.declared.keeping.Lines.{Lines}
use Rattle.schedule.specs.State.{ScheduleState, RanWith, CompletedWith}
use Rattle.command_files.specs.Cooked.{plans_of}
use Rattle.command_files.specs.Devices.{devices_of}
use Rattle.command_files.specs.Planned.{given, script_of}
use Rattle.command_files.specs.Recorded.{HasBegun, HasEnded, HasRead, RecordingState, RefusesEvents, Feeds, is_memory, refusal_of}

pub has_begun : (place : Place) → IsBegun place → HasBegun place
has_begun (Err error) h = h
has_begun (Ok at) h = h

is_begun : (place : Place) → HasBegun place → IsBegun place
is_begun (Err error) h = h
is_begun (Ok at) h = h

at_refusal : (devices : Known) (place : Place) (error : LineError) (rest : List ℕ) → Err error ≡ answered place → still_at devices place rest ≡ Err error
at_refusal devices (Err e) error rest h = let same : error ≡ e = cc in rw same refl
at_refusal devices (Ok at) error rest h = cc

-- what the reader goes on to
abbrev pub GoesOn : Known → List RawEvent → Reader → List ℕ → Type 0
GoesOn devices front reader bytes = (rest : List ℕ) → with_events front (still reader rest) ≡ recorded devices (bytes ++ rest)

-- a piece behind some bytes, with what comes behind it
cut_off : (devices : Known) (bytes piece rest : List ℕ) → recorded devices (bytes ++ (piece ++ rest)) ≡ recorded devices ((bytes ++ piece) ++ rest)
cut_off devices bytes piece rest = ap (recorded devices) (sym (append_assoc bytes piece rest))

-- a piece whose lines were read
pub read_on : (devices : Known) (old new : Reader) (front events : List RawEvent) (bytes piece : List ℕ)
    → Does (Ok tt) (fed old piece) old new [] events → GoesOn devices front old bytes → GoesOn devices (front ++ events) new (bytes ++ piece)
read_on devices old new front events bytes piece d h rest =
    piece_read old new front (front ++ events) (recorded devices ((bytes ++ piece) ++ rest)) piece rest (d.0, d.1, ap (λ xs. front ++ xs) d.2)
    (h (piece ++ rest) ∙ cut_off devices bytes piece rest)

-- a piece with a line that is refused, or one behind it
pub refused_on : (devices : Known) (old new : Reader) (front : List RawEvent) (bytes piece : List ℕ) (error : LineError)
    → Err error ≡ answered (fed old piece).place → new ≡ record { devices = old.devices; place = (fed old piece).place }
    → GoesOn devices front old bytes → GoesOn devices front new (bytes ++ piece)
refused_on devices old new front bytes piece error a n h rest =
    ap (λ (r : Reader). with_events front (still r rest)) n
    ∙ ap (with_events front) (at_refusal old.devices (fed old piece).place error rest a ∙ sym (refused_there old piece rest error a))
    ∙ h (piece ++ rest) ∙ cut_off devices bytes piece rest

-- the line that has begun behind a piece
pub begun_on : (old new : Reader) (piece : List ℕ) → new ≡ record { devices = old.devices; place = (fed old piece).place } → HasBegun new.place
begun_on old new piece n = rw n (has_begun (fed old piece).place (fed_begun old.devices old.place piece))

whole : (devices : Known) (old : Reader) (front : List RawEvent) (bytes : List ℕ) → GoesOn devices front old bytes → with_events front (still old []) ≡ recorded devices bytes
whole devices old front bytes h = h [] ∙ ap (recorded devices) (append-nil bytes)

-- the end, where no line was refused
pub ended : (devices : Known) (old new : Reader) (front events : List RawEvent) (bytes : List ℕ) → HasBegun old.place
    → Does (Ok tt) (finished old) old new [] events → GoesOn devices front old bytes → recorded devices bytes ≡ Ok (front ++ events)
ended devices old new front events bytes begun d h =
    end_read old new front (front ++ events) (recorded devices bytes) (is_begun old.place begun) (d.0, d.1, ap (λ xs. front ++ xs) d.2) (whole devices old front bytes h)

-- the events of a piece behind those before, in their order
newer : (past events cooked_ones : List RawEvent) → cooked_ones ≡ events → reverse (reverse cooked_ones ++ past) ≡ reverse past ++ events
newer past events cooked_ones same =
    reverse-append (reverse cooked_ones) past ∙ ap (λ (xs : List RawEvent). reverse past ++ xs) (reverse-reverse cooked_ones ∙ same)

-- A recording that took a piece: the events of its lines were cooked.
pub piece_fed : (run : RunPlan) (old : RecordingState) (reader : Reader) (readers : ReadersState) (schedule : ScheduleState) (piece : List ℕ)
    (events cooked_ones : List RawEvent) (r : Result (Unit {0}) AllocError)
    → Does (Ok tt) (fed old.reader piece) old.reader reader [] events → cooked_ones ≡ events
    → ((how : Lines) (p : PlanData) (past : List RawEvent) → plan_of run ≡ script_of p → ReadersStandFor (plans_of p) past old.readers
    → RanWith how (script_of p) (given p past) old.schedule
    → OnOk r (ReadersStandFor (plans_of p) (reverse cooked_ones ++ past) readers × RanWith how (script_of p) (given p (reverse cooked_ones ++ past)) schedule))
    → OnOk r (Feeds run old (record { reader = reader; readers = readers; schedule = schedule }) piece)
piece_fed run old reader readers schedule piece events cooked_ones (Err e) does same cooks = tt
piece_fed run old reader readers schedule piece events cooked_ones (Ok x) does same cooks = λ how p bytes is taken.
    let done = cooks how p taken.past is taken.readers taken.ran
    in record {
      past = reverse cooked_ones ++ taken.past;
      read = subst (λ (xs : List RawEvent). GoesOn (devices_of p) xs reader (bytes ++ piece)) (sym (newer taken.past events cooked_ones same))
          (read_on (devices_of p) old.reader reader (reverse taken.past) events bytes piece does taken.read);
      begun = begun_on old.reader reader piece does.1;
      readers = done.0;
      ran = done.1;
    }

-- A recording that took a piece with a refused line, or after one: nothing more is run.
pub refused_piece : (run : RunPlan) (old : RecordingState) (reader : Reader) (piece : List ℕ) (error : LineError)
    → Err error ≡ answered (fed old.reader piece).place → reader ≡ record { devices = old.reader.devices; place = (fed old.reader piece).place }
    → Feeds run old (record { reader = reader; readers = old.readers; schedule = old.schedule }) piece
refused_piece run old reader piece error a n = λ how p bytes is taken.
    record {
      past = taken.past;
      read = refused_on (devices_of p) old.reader reader (reverse taken.past) bytes piece error a n taken.read;
      begun = begun_on old.reader reader piece n;
      readers = taken.readers;
      ran = taken.ran;
    }

pub refused_feed : (run : RunPlan) (old : RecordingState) (reader : Reader) (piece : List ℕ) (before events : List RawEvent) (error : LineError)
    → is_memory error ≡ false → Does (Err error) (fed old.reader piece) old.reader reader before events
    → Feeds run old (record { reader = reader; readers = old.readers; schedule = old.schedule }) piece
refused_feed run old reader piece before events (errors.BadLine n) f d = refused_piece run old reader piece (errors.BadLine n) d.0 d.1
refused_feed run old reader piece before events (errors.NoMoment n) f d = refused_piece run old reader piece (errors.NoMoment n) d.0 d.1
refused_feed run old reader piece before events (errors.TooLong n) f d = refused_piece run old reader piece (errors.TooLong n) d.0 d.1
refused_feed run old reader piece before events errors.Memory f d = absurd (cc)

-- the end, where a line was refused
pub refused_end : (how : Lines) (p : PlanData) (bytes : List ℕ) (old : RecordingState) (reader : Reader) (before events : List RawEvent) (error : LineError)
    → is_memory error ≡ false → Does (Err error) (finished old.reader) old.reader reader before events → HasRead how p bytes old
    → recorded (devices_of p) bytes ≡ Err error
refused_end how p bytes old reader before events (errors.BadLine n) f d taken =
    end_refused old.reader reader (reverse taken.past) (reverse taken.past ++ (finished old.reader).events) (recorded (devices_of p) bytes) (errors.BadLine n)
    (is_begun old.reader.place taken.begun) (d.0, d.1, refl) (whole (devices_of p) old.reader (reverse taken.past) bytes taken.read)
refused_end how p bytes old reader before events (errors.NoMoment n) f d taken =
    end_refused old.reader reader (reverse taken.past) (reverse taken.past ++ (finished old.reader).events) (recorded (devices_of p) bytes) (errors.NoMoment n)
    (is_begun old.reader.place taken.begun) (d.0, d.1, refl) (whole (devices_of p) old.reader (reverse taken.past) bytes taken.read)
refused_end how p bytes old reader before events (errors.TooLong n) f d taken =
    end_refused old.reader reader (reverse taken.past) (reverse taken.past ++ (finished old.reader).events) (recorded (devices_of p) bytes) (errors.TooLong n)
    (is_begun old.reader.place taken.begun) (d.0, d.1, refl) (whole (devices_of p) old.reader (reverse taken.past) bytes taken.read)
refused_end how p bytes old reader before events errors.Memory f d taken = absurd (cc)

abbrev ok_of : List RawEvent → Result (List RawEvent) LineError
ok_of xs = Ok xs

-- the end, where a line was refused or memory ran out
pub end_refuses : (how : Lines) (p : PlanData) (bytes : List ℕ) (old : RecordingState) (reader : Reader) (before events : List RawEvent) (error : LineError)
    → Does (Err error) (finished old.reader) old.reader reader before events → HasRead how p bytes old → RefusesEvents p bytes (refusal_of error)
end_refuses how p bytes old reader before events (errors.BadLine n) d taken = refused_end how p bytes old reader before events (errors.BadLine n) refl d taken
end_refuses how p bytes old reader before events (errors.NoMoment n) d taken = refused_end how p bytes old reader before events (errors.NoMoment n) refl d taken
end_refuses how p bytes old reader before events (errors.TooLong n) d taken = refused_end how p bytes old reader before events (errors.TooLong n) refl d taken
end_refuses how p bytes old reader before events errors.Memory d taken = tt

-- The end, where no line was refused: the run is that of all events, and done.
pub ended_run : (how : Lines) (run : RunPlan) (p : PlanData) (bytes : List ℕ) (old : RecordingState) (reader : Reader) (events cooked_ones : List RawEvent) (schedule over : ScheduleState)
    → plan_of run ≡ script_of p → HasRead how p bytes old → Does (Ok tt) (finished old.reader) old.reader reader [] events → cooked_ones ≡ events
    → ((past : List RawEvent) → ReadersStandFor (plans_of p) past old.readers → RanWith how (script_of p) (given p past) old.schedule
    → RanWith how (script_of p) (given p (reverse cooked_ones ++ past)) schedule)
    → ((before : List Cooked) → RanWith how (plan_of run) before schedule → CompletedWith how (plan_of run) before over) → HasEnded how p bytes over
ended_run how run p bytes old reader events cooked_ones schedule over is taken does same cooks completes =
    record {
      past = reverse cooked_ones ++ taken.past;
      read = ended (devices_of p) old.reader reader (reverse taken.past) events bytes taken.begun does taken.read
          ∙ ap (λ (xs : List RawEvent). ok_of xs) (sym (newer taken.past events cooked_ones same));
      completed = subst (λ (r : Plan). CompletedWith how r (given p (reverse cooked_ones ++ taken.past)) over) is
          (completes (given p (reverse cooked_ones ++ taken.past))
          (subst (λ (r : Plan). RanWith how r (given p (reverse cooked_ones ++ taken.past)) schedule) (sym is) (cooks taken.past taken.readers taken.ran)));
    }
