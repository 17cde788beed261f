-- What `why` refuses, and what `replay` refuses.
use Rattle.std.proofs.Common.{ℕ, List, [], ◌∷◌, Option, Some, None, Result, Ok, Err}
use Rattle.std.specs.Option.{IsSomeAnd}
use Rattle.outside_io.specs.Outside.{bytes_of}
use Rattle.command_files.specs.Devices.{devices_of}
use Rattle.command_files.specs.Inputs.{events_file, session_file}
use Rattle.command_files.specs.Judged.{After, Answer, Ends, FileKind, Origin, Reads, by_log, by_name, judged, judged_at}
use Rattle.command_files.specs.Refused.{Refused}
use Rattle.command_answers.specs.Replay.{RecordingAnswers, RunAnswers}
use Rattle.command_answers.specs.Why.{CausesAnswer, WhyAnswers}
use Rattle.answer_laws.specs.Laws.{WhyRefuses}

after_same : {A : Type 0} (y : Result A Refused) (from : Origin) (Next With : Origin → A → Answer → Type 0) (r : Refused)
    → ((x : A) → Next from x (Err r) → With from x (Err r)) → After Next from y (Err r) → After With from y (Err r)
after_same (Ok x) from Next With r f h = f x h
after_same (Err e) from Next With r f h = h

some_same : (o : Option (List ℕ)) (From To : List ℕ → Type 0) → ((bytes : List ℕ) → From bytes → To bytes) → IsSomeAnd o From → IsSomeAnd o To
some_same None From To f h = h
some_same (Some bytes) From To f h = f bytes h

-- a file that is read in the same way, before an answer or before another one
reads_same : {A : Type 0} (from : Origin) (name : List ℕ) (kind : FileKind A) (Next With : Origin → A → Answer → Type 0) (r : Refused)
    → ((rest : Origin) (x : A) → Next rest x (Err r) → With rest x (Err r)) → Reads from name kind Next (Err r) → Reads from name kind With (Err r)
reads_same (by_name entries) name kind Next With r f h =
    some_same (bytes_of entries name) (λ bytes. After Next (by_name entries) (judged kind bytes) (Err r)) (λ bytes. After With (by_name entries) (judged kind bytes) (Err r))
    (λ bytes k. after_same (judged kind bytes) (by_name entries) Next With r (f (by_name entries)) k) h
reads_same (by_log []) name kind Next With r f h = h
reads_same (by_log (one ∷ rs)) name kind Next With r f h =
    (h.0, (h.1.0, after_same (judged_at kind one.stage one.given) (by_log rs) Next With r (f (by_log rs)) h.1.1))

pub why_refuses : WhyRefuses
why_refuses from files r = (
  reads_same from files.session session_file (CausesAnswer files.events) (RecordingAnswers files.events) r
      (λ rest plan. reads_same rest files.events (events_file (devices_of plan)) (λ last given. Ends (WhyAnswers plan given) last) (λ last given. Ends (RunAnswers plan given) last) r (λ last given h. h)),
  reads_same from files.session session_file (RecordingAnswers files.events) (CausesAnswer files.events) r
      (λ rest plan. reads_same rest files.events (events_file (devices_of plan)) (λ last given. Ends (RunAnswers plan given) last) (λ last given. Ends (WhyAnswers plan given) last) r (λ last given h. h)),
)
