-- One piece more of a recording, and its end.
use Rattle.std.proofs.Common.{◌≡◌, ℕ, List, [], ◌++◌, Ok, Err, refl, ap, sym, subst, reverse, ◌∙◌}
use Rattle.std.proofs.lemmas.List.{append_assoc, append-nil, reverse-append}
use Rattle.raw_events.specs.declared.event.RawEvent.{RawEvent}
use Rattle.raw_events.specs.declared.event.LineError.{LineError}
use Rattle.raw_events.specs.declared.event.LineError.TheVariants as errors
use Rattle.raw_events.specs.Line.{Known}
use Rattle.raw_events.specs.Recording.{Answers, lines_of, recorded}
use Rattle.raw_events.specs.Pieces.{Place, Reader, Does, fed, finished, still, with_events}
use Rattle.raw_events.proofs.Reading.{nothing_in_front}
use Rattle.raw_events.proofs.Cuts.{IsBegun, begun_there, end_read, end_refused, piece_read, piece_refused}
use Rattle.device_reader.specs.Cooked.{DevicePlan}
use Rattle.recording_counts.specs.Lines.{AreRead}
use Rattle.recording_counts.specs.LineTally.{LineCountsStandFor, LineTallyStandsFor}
use Rattle.recording_counts.proofs.AllRead.{all_read, read_back}
use Rattle.recording_counts.specs.EventTally.{EventTallyStandsFor, EventsState}
use Rattle.recording_counts.specs.RecordingTally.{HasBegun, HasCounted, IsCounted, TallyState}

has_begun : (place : Place) → IsBegun place → HasBegun place
has_begun (Err error) h = h
has_begun (Ok at) h = h

is_begun : (place : Place) → HasBegun place → IsBegun place
is_begun (Err error) h = h
is_begun (Ok at) h = h

-- before the first byte
pub none_yet : (devices : Known) (plans : List DevicePlan) (t : TallyState) → t.reader ≡ record { devices = devices; place = Ok (1, []) }
    → LineTallyStandsFor devices [] t.lines → EventTallyStandsFor plans [] t.events → HasCounted devices plans [] t
unfolding recorded
none_yet devices plans t is lines events = record {
  events = [];
  goes_on = λ rest. rw is (nothing_in_front (recorded devices rest));
  begun = rw is refl;
  lines_stand = lines;
  events_stand = events;
}

cut_off : (devices : Known) (bytes piece rest : List ℕ) → recorded devices (bytes ++ (piece ++ rest)) ≡ recorded devices ((bytes ++ piece) ++ rest)
cut_off devices bytes piece rest = ap (recorded devices) (sym (append_assoc bytes piece rest))

newest_first : (plans : List DevicePlan) (front told : List RawEvent) (s : EventsState) → EventTallyStandsFor plans (reverse told ++ reverse front) s → EventTallyStandsFor plans (reverse (front ++ told)) s
newest_first plans front told s h = subst (λ (past : List RawEvent). EventTallyStandsFor plans past s) (sym (reverse-append front told)) h

-- a piece was read and counted
pub fed_on : (devices : Known) (plans : List DevicePlan) (bytes piece : List ℕ) (old new : TallyState) (before told : List RawEvent) → before ≡ []
    → Does (Ok tt) (fed old.reader piece) old.reader new.reader before told
    → LineTallyStandsFor devices (bytes ++ piece) new.lines
    → ((past : List RawEvent) → EventTallyStandsFor plans past old.events → EventTallyStandsFor plans (reverse told ++ past) new.events)
    → HasCounted devices plans bytes old → HasCounted devices plans (bytes ++ piece) new
fed_on devices plans bytes piece old new before told none d lines events h =
    let is : told ≡ (fed old.reader piece).events = d.2 ∙ ap (λ (es : List RawEvent). es ++ (fed old.reader piece).events) none in
    record {
      events = h.events ++ told;
      goes_on = λ rest.
          piece_read old.reader new.reader h.events (h.events ++ told) (recorded devices ((bytes ++ piece) ++ rest)) piece rest
          (d.0, d.1, ap (λ (es : List RawEvent). h.events ++ es) is)
          (h.goes_on (piece ++ rest) ∙ cut_off devices bytes piece rest);
      begun = has_begun new.reader.place (begun_there old.reader new.reader before told (recorded devices []) piece d);
      lines_stand = lines;
      events_stand = newest_first plans h.events told new.events (events (reverse h.events) h.events_stand);
    }

-- a line of it was refused, or memory ran out
pub feed_refused : (devices : Known) (plans : List DevicePlan) (bytes piece : List ℕ) (old : TallyState) (reader : Reader) (before told : List RawEvent) (error : LineError)
    → Does (Err error) (fed old.reader piece) old.reader reader before told → HasCounted devices plans bytes old
    → (rest : List ℕ) → Answers (Err error) (recorded devices ((bytes ++ piece) ++ rest))
feed_refused devices plans bytes piece old reader before told error d h rest =
    by_error error d
  where
    all : with_events h.events (still old.reader (piece ++ rest)) ≡ recorded devices ((bytes ++ piece) ++ rest)
    all = h.goes_on (piece ++ rest) ∙ cut_off devices bytes piece rest

    by_error : (e : LineError) → Does (Err e) (fed old.reader piece) old.reader reader before told → Answers (Err e) (recorded devices ((bytes ++ piece) ++ rest))
    by_error (errors.BadLine n) k = piece_refused old.reader reader h.events (h.events ++ (fed old.reader piece).events) _ piece rest (errors.BadLine n) (k.0, k.1, refl) all
    by_error (errors.NoMoment n) k = piece_refused old.reader reader h.events (h.events ++ (fed old.reader piece).events) _ piece rest (errors.NoMoment n) (k.0, k.1, refl) all
    by_error (errors.TooLong n) k = piece_refused old.reader reader h.events (h.events ++ (fed old.reader piece).events) _ piece rest (errors.TooLong n) (k.0, k.1, refl) all
    by_error errors.Memory k = tt

whole : (devices : Known) (plans : List DevicePlan) (bytes : List ℕ) (old : TallyState) (h : HasCounted devices plans bytes old) → with_events h.events (still old.reader []) ≡ recorded devices bytes
whole devices plans bytes old h = h.goes_on [] ∙ ap (recorded devices) (append-nil bytes)

read_all : (devices : Known) (bytes : List ℕ) (events : List RawEvent) → recorded devices bytes ≡ Ok events → AreRead devices (reverse (lines_of bytes))
unfolding recorded
read_all devices bytes events h = read_back devices (lines_of bytes) (all_read devices 1 (lines_of bytes) events h)

-- the end was read and counted
pub ended : (devices : Known) (plans : List DevicePlan) (bytes : List ℕ) (old new : TallyState) (before told : List RawEvent) → before ≡ []
    → Does (Ok tt) (finished old.reader) old.reader new.reader before told
    → LineCountsStandFor devices (reverse (lines_of bytes)) new.lines.counts
    → ((past : List RawEvent) → EventTallyStandsFor plans past old.events → EventTallyStandsFor plans (reverse told ++ past) new.events)
    → HasCounted devices plans bytes old → IsCounted devices plans bytes new
ended devices plans bytes old new before told none d lines events h =
    let is : told ≡ (finished old.reader).events = d.2 ∙ ap (λ (es : List RawEvent). es ++ (finished old.reader).events) none in
    let gives : recorded devices bytes ≡ Ok (h.events ++ told) =
    end_read old.reader new.reader h.events (h.events ++ told) (recorded devices bytes) (is_begun old.reader.place h.begun)
    (d.0, d.1, ap (λ (es : List RawEvent). h.events ++ es) is) (whole devices plans bytes old h) in
    record {
      events = h.events ++ told;
      events_are = gives;
      lines_read = read_all devices bytes (h.events ++ told) gives;
      lines_stand = lines;
      events_stand = newest_first plans h.events told new.events (events (reverse h.events) h.events_stand);
    }

-- the last line was refused, or memory ran out
pub end_stopped : (devices : Known) (plans : List DevicePlan) (bytes : List ℕ) (old : TallyState) (reader : Reader) (before told : List RawEvent) (error : LineError)
    → Does (Err error) (finished old.reader) old.reader reader before told → HasCounted devices plans bytes old → Answers (Err error) (recorded devices bytes)
end_stopped devices plans bytes old reader before told error d h =
    by_error error d
  where
    by_error : (e : LineError) → Does (Err e) (finished old.reader) old.reader reader before told → Answers (Err e) (recorded devices bytes)
    by_error (errors.BadLine n) k =
        end_refused old.reader reader h.events (h.events ++ (finished old.reader).events) _ (errors.BadLine n) (is_begun old.reader.place h.begun) (k.0, k.1, refl) (whole devices plans bytes old h)
    by_error (errors.NoMoment n) k =
        end_refused old.reader reader h.events (h.events ++ (finished old.reader).events) _ (errors.NoMoment n) (is_begun old.reader.place h.begun) (k.0, k.1, refl) (whole devices plans bytes old h)
    by_error (errors.TooLong n) k =
        end_refused old.reader reader h.events (h.events ++ (finished old.reader).events) _ (errors.TooLong n) (is_begun old.reader.place h.begun) (k.0, k.1, refl) (whole devices plans bytes old h)
    by_error errors.Memory k = tt
