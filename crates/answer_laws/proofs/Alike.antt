-- What is refused before a run is refused by `inspect` and by `replay`.
use Rattle.std.proofs.Common.{◌≡◌, ℕ, Bool, true, false, List, [], ◌∷◌, nat_le, length, cond, Option, Some, None, Result, Ok, Err, refl, sym, subst, inl, inr, codes}
use Rattle.std.specs.Prelude.{◌⊎◌}
use Rattle.std.specs.Option.{IsSomeAnd}
use Rattle.outside_io.specs.Trace.{Stage, at_end, failed, going}
use Rattle.outside_io.specs.Outside.{bytes_of}
use Rattle.raw_events.specs.Recording.{lines_of}
use Rattle.raw_events.specs.declared.event.RawEvent.{RawEvent}
use Rattle.session_plan.specs.Plan.{PlanData}
use Rattle.unread_keys.specs.Session.{unread_text}
use Rattle.command_files.specs.Devices.{devices_of}
use Rattle.command_files.specs.Inputs.{events_file, session_file}
use Rattle.command_files.specs.Judged.{After, Answer, Ends, FileKind, Origin, Reads, beside, by_log, by_name, judged, judged_at, with_more}
use Rattle.command_files.specs.Refused.{Refused, too_long}
use Rattle.command_answers.specs.Inspect.{CountsAnswer, InspectAnswers}
use Rattle.command_answers.specs.Replay.{RecordingAnswers, RunAnswers}
use Rattle.answer_laws.specs.Laws.{InspectRefuses, ReplayRefuses}

-- an additional result from its bytes does not change how a file is judged
judged_more : {A B : Type 0} (kind : FileKind A) (more : List ℕ → B) (bytes : List ℕ)
    → judged (with_more kind more) bytes ≡ beside (judged kind bytes) (more bytes)
judged_more kind more bytes = by_length (nat_le (length bytes) kind.limit)
  where
    by_length : (b : Bool) → cond b (beside (kind.rule bytes) (more bytes)) (Err (too_long kind.what)) ≡ beside (cond b (kind.rule bytes) (Err (too_long kind.what))) (more bytes)
    by_length true = refl
    by_length false = refl

-- nor how a reading of it is
staged_more : {A B : Type 0} (kind : FileKind A) (more : List ℕ → B) (stage : Stage) (bytes : List ℕ)
    → judged_at (with_more kind more) stage bytes ≡ beside (judged_at kind stage bytes) (more bytes)
staged_more kind more failed bytes = refl
staged_more kind more at_end bytes = judged_more kind more bytes
staged_more kind more going bytes = judged_more kind more bytes

-- a refusal behind one judgement is one behind the other, or this is so
abbrev Carries : (Answer → Type 0) → (Answer → Type 0) → Type 0 → Refused → Type 0
Carries From To Or r = From (Err r) → To (Err r) ⊎ Or

after_more : {A B : Type 0} (y : Result A Refused) (more : B) (from : Origin) (Next : Origin → A → Answer → Type 0) (With : Origin → A × B → Answer → Type 0)
    (Or : Type 0) (r : Refused) → ((x : A) → Carries (Next from x) (With from (x, more)) Or r)
    → Carries (After Next from y) (After With from (beside y more)) Or r
after_more (Ok x) more from Next With Or r f h = f x h
after_more (Err e) more from Next With Or r f h = inl h

after_less : {A B : Type 0} (y : Result A Refused) (more : B) (from : Origin) (Next : Origin → A → Answer → Type 0) (With : Origin → A × B → Answer → Type 0)
    (Or : Type 0) (r : Refused) → ((x : A) → Carries (With from (x, more)) (Next from x) Or r)
    → Carries (After With from (beside y more)) (After Next from y) Or r
after_less (Ok x) more from Next With Or r f h = f x h
after_less (Err e) more from Next With Or r f h = inl h

some_carries : (o : Option (List ℕ)) (From To : List ℕ → Answer → Type 0) (Or : Type 0) (r : Refused) → ((bytes : List ℕ) → Carries (From bytes) (To bytes) Or r)
    → Carries (λ a. IsSomeAnd o (λ bytes. From bytes a)) (λ a. IsSomeAnd o (λ bytes. To bytes a)) Or r
some_carries None From To Or r f h = absurd h
some_carries (Some bytes) From To Or r f h = f bytes h

log_carries : (name : Type 0) (enough : Type 0) (From To : Answer → Type 0) (Or : Type 0) (r : Refused) → Carries From To Or r
    → Carries (λ a. name × (enough × From a)) (λ a. name × (enough × To a)) Or r
log_carries name enough From To Or r f h = by_end (f h.1.1)
  where
    by_end : To (Err r) ⊎ Or → (name × (enough × To (Err r))) ⊎ Or
    by_end (inl k) = inl (h.0, (h.1.0, k))
    by_end (inr k) = inr k

-- a file that is read with something more
reads_more : {A B : Type 0} (from : Origin) (name : List ℕ) (kind : FileKind A) (more : List ℕ → B) (Next : Origin → A → Answer → Type 0)
    (With : Origin → A × B → Answer → Type 0) (Or : Type 0) (r : Refused)
    → ((rest : Origin) (x : A) (m : B) → Carries (Next rest x) (With rest (x, m)) Or r)
    → Carries (Reads from name kind Next) (Reads from name (with_more kind more) With) Or r
reads_more (by_name entries) name kind more Next With Or r f =
    some_carries (bytes_of entries name) (λ bytes. After Next (by_name entries) (judged kind bytes)) (λ bytes. After With (by_name entries) (judged (with_more kind more) bytes)) Or r
    (λ bytes. subst (λ z. Carries (After Next (by_name entries) (judged kind bytes)) (After With (by_name entries) z) Or r) (sym (judged_more kind more bytes))
    (after_more (judged kind bytes) (more bytes) (by_name entries) Next With Or r (λ x. f (by_name entries) x (more bytes))))
reads_more (by_log []) name kind more Next With Or r f = λ h. absurd h
reads_more (by_log (one ∷ rs)) name kind more Next With Or r f =
    log_carries (one.name ≡ name) _ (After Next (by_log rs) (judged_at kind one.stage one.given)) (After With (by_log rs) (judged_at (with_more kind more) one.stage one.given)) Or r
    (subst (λ z. Carries (After Next (by_log rs) (judged_at kind one.stage one.given)) (After With (by_log rs) z) Or r) (sym (staged_more kind more one.stage one.given))
    (after_more (judged_at kind one.stage one.given) (more one.given) (by_log rs) Next With Or r (λ x. f (by_log rs) x (more one.given))))

reads_less : {A B : Type 0} (from : Origin) (name : List ℕ) (kind : FileKind A) (more : List ℕ → B) (Next : Origin → A → Answer → Type 0)
    (With : Origin → A × B → Answer → Type 0) (Or : Type 0) (r : Refused)
    → ((rest : Origin) (x : A) (m : B) → Carries (With rest (x, m)) (Next rest x) Or r)
    → Carries (Reads from name (with_more kind more) With) (Reads from name kind Next) Or r
reads_less (by_name entries) name kind more Next With Or r f =
    some_carries (bytes_of entries name) (λ bytes. After With (by_name entries) (judged (with_more kind more) bytes)) (λ bytes. After Next (by_name entries) (judged kind bytes)) Or r
    (λ bytes. subst (λ z. Carries (After With (by_name entries) z) (After Next (by_name entries) (judged kind bytes)) Or r) (sym (judged_more kind more bytes))
    (after_less (judged kind bytes) (more bytes) (by_name entries) Next With Or r (λ x. f (by_name entries) x (more bytes))))
reads_less (by_log []) name kind more Next With Or r f = λ h. absurd h
reads_less (by_log (one ∷ rs)) name kind more Next With Or r f =
    log_carries (one.name ≡ name) _ (After With (by_log rs) (judged_at (with_more kind more) one.stage one.given)) (After Next (by_log rs) (judged_at kind one.stage one.given)) Or r
    (subst (λ z. Carries (After With (by_log rs) z) (After Next (by_log rs) (judged_at kind one.stage one.given)) Or r) (sym (staged_more kind more one.stage one.given))
    (after_less (judged_at kind one.stage one.given) (more one.given) (by_log rs) Next With Or r (λ x. f (by_log rs) x (more one.given))))

-- the two ends
abbrev TooLong : Refused → Type 0
TooLong r = r ≡ too_long (codes "run")

run_ends : (plan : PlanData) (keys : List ℕ) (events : List RawEvent) (lines : List (List ℕ)) (rest : Origin) (r : Refused)
    → Carries (Ends (RunAnswers plan events) rest) (Ends (InspectAnswers (plan, keys) (events, lines)) rest) (TooLong r) r
run_ends plan keys events lines rest r h = inr h.0.1

text_ends : (plan : PlanData) (keys : List ℕ) (events : List RawEvent) (lines : List (List ℕ)) (rest : Origin) (r : Refused)
    → Carries (Ends (InspectAnswers (plan, keys) (events, lines)) rest) (Ends (RunAnswers plan events) rest) ⊥ r
text_ends plan keys events lines rest r h = absurd (cc (h.0))

pub inspect_refuses : InspectRefuses
inspect_refuses from files r h =
    only
    (reads_less from files.session session_file unread_text (RecordingAnswers files.events) (CountsAnswer files.events) ⊥ r
    (λ rest plan keys. reads_less rest files.events (events_file (devices_of plan)) lines_of (λ last events. Ends (RunAnswers plan events) last)
    (λ last recording. Ends (InspectAnswers (plan, keys) recording) last) ⊥ r (λ last events lines. text_ends plan keys events lines last r)) h)
  where
    only : {P : Type 0} → P ⊎ ⊥ → P
    only (inl p) = p
    only (inr none) = absurd none

pub replay_refuses : ReplayRefuses
replay_refuses from files r =
    reads_more from files.session session_file unread_text (RecordingAnswers files.events) (CountsAnswer files.events) (TooLong r) r
    (λ rest plan keys. reads_more rest files.events (events_file (devices_of plan)) lines_of (λ last events. Ends (RunAnswers plan events) last)
    (λ last recording. Ends (InspectAnswers (plan, keys) recording) last) (TooLong r) r (λ last events lines. run_ends plan keys events lines last r))
