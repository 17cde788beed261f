-- The counts of a recording are what `inspect` prints.
use Rattle.std.proofs.Common.{◌≡◌, ℕ, List, Result, Ok, Err, reverse, ap, sym, subst, refl}
use Rattle.raw_events.specs.declared.event.RawEvent.{RawEvent}
use Rattle.raw_events.specs.declared.event.LineError.{LineError}
use Rattle.raw_events.specs.Recording.{lines_of}
use Rattle.session_plan.specs.Plan.{PlanData}
use Rattle.inspect_text.specs.Inspected.{inspected}
use Rattle.recording_counts.specs.RecordingTally.{IsCounted, TallyState}
use Rattle.command_files.specs.declared.refusal.Refusal.{Refusal}
use Rattle.command_files.specs.declared.refusal.Refusal.TheVariants.{Session, Recording, Order, Stream, ReadFailed, NoMemory, TooLong}
use Rattle.command_files.specs.Cooked.{plans_of}
use Rattle.command_files.specs.Devices.{devices_of}
use Rattle.command_files.specs.Inputs.{lined_file, lines_judged}
use Rattle.command_files.specs.Judged.{Answer, Behind, beside}
use Rattle.command_files.specs.Recorded.{RefusesEvents}
use Rattle.command_files.specs.RefusalView.{refusal_view}
use Rattle.command_files.specs.Refusing.{RefusesSo}
use Rattle.command_answers.specs.Inspect.{InspectAnswers}

-- the answer by what the lines of a recording say
abbrev Answered : PlanData × List ℕ → List ℕ → Result (List RawEvent) LineError → Answer → Type 0
Answered session bytes read a = Behind (InspectAnswers session) (beside (lines_judged read) (lines_of bytes)) a

abbrev text_of : List ℕ → Answer
text_of xs = Ok xs

pub counts_sent : (session : PlanData × List ℕ) (bytes text : List ℕ) (t : TallyState)
    (counted : IsCounted (devices_of session.0) (plans_of session.0) bytes t)
    → text ≡ inspected (devices_of session.0) (reverse (lines_of bytes)) (plans_of session.0) (reverse counted.events) session.0.steps session.1
    → Behind (InspectAnswers session) ((lined_file (devices_of session.0)).rule bytes) (Ok text)
counts_sent session bytes text t counted is =
    subst (λ (x : Result (List RawEvent) LineError). Answered session bytes x (Ok text)) (sym counted.events_are) (ap text_of (sym is))

pub counts_refused : (session : PlanData × List ℕ) (bytes : List ℕ) (r : Refusal) → RefusesEvents session.0 bytes r
    → RefusesSo (λ x. Behind (InspectAnswers session) ((lined_file (devices_of session.0)).rule bytes) (Err x)) r
counts_refused session bytes (Session e) h = absurd h
counts_refused session bytes (Recording e) h =
    subst (λ (x : Result (List RawEvent) LineError). Answered session bytes x (Err (refusal_view (Recording e)))) (sym h) refl
counts_refused session bytes (Order e) h = absurd h
counts_refused session bytes (Stream e) h = absurd h
counts_refused session bytes (ReadFailed file) h = absurd h
counts_refused session bytes NoMemory h = tt
counts_refused session bytes (TooLong what) h = absurd h
