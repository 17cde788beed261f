-- Each command has one answer, if those that it may have to a race are one.
use Rattle.std.proofs.Common.{◌≡◌, ℕ, List, [], ◌∷◌, reverse, Option, Some, None, Result, Ok, Err, refl, sym, ap, ◌∙◌, subst}
use Rattle.std.specs.Option.{IsSomeAnd}
use Rattle.outside_io.specs.Outside.{bytes_of}
use Rattle.raw_events.specs.declared.event.RawEvent.{RawEvent}
use Rattle.session_plan.specs.Plan.{PlanData}
use Rattle.command_words.specs.Command.{Command, Recorded, replay, race, check, verify, work, batch, hover, emit, judge, compare, inspect, why, show}
use Rattle.command_words.specs.Forms.{form_of}
use Rattle.emit_text.proofs.Once.{emitted_once}
use Rattle.command_answers.specs.Batch.{BatchAnswers}
use Rattle.command_files.specs.Devices.{devices_of}
use Rattle.command_answers.specs.Emit.{EmitAnswers, emit_answer}
use Rattle.command_answers.specs.Checked.{CheckAnswers, OrderAnswers, OrderedBy}
use Rattle.command_answers.specs.Compare.{GotAnswers, SameAnswers, comparison}
use Rattle.command_answers.specs.Hover.{HoverAnswers, mouse_alone}
use Rattle.command_files.specs.Judged.{After, Answer, Ends, FileKind, Origin, Reads, by_log, by_name, judged, judged_at}
use Rattle.help_text.specs.declared.page.Page.{Page}
use Rattle.command_answers.specs.Page.{Shows}
use Rattle.command_answers.specs.Program.{AnswersTo, IsAlone, WordsAnswer}
use Rattle.command_answers.specs.Hover.{MouseAnswers}
use Rattle.command_answers.specs.Inspect.{CountsAnswer, InspectAnswers}
use Rattle.command_answers.specs.Judge.{JudgeAnswers}
use Rattle.command_answers.specs.Replay.{RecordingAnswers, RunAnswers}
use Rattle.command_answers.specs.Verify.{StreamAnswers}
use Rattle.command_answers.specs.Why.{CausesAnswer, WhyAnswers}
use Rattle.command_answers.specs.Race.{ThreadsAnswer}
use Rattle.command_files.specs.Inputs.{events_file, got_file, keyed_file, lined_file, order_file, session_file, stream_file, want_file}
use Rattle.command_answers.specs.Race.{RaceAnswers, Races}
use Rattle.command_files.specs.Refused.{Refused}
use Rattle.answer_laws.specs.Laws.{OneAnswer, OneRefusal}
use Rattle.answer_laws.proofs.Runs.{explains_once, follows_once, races_refused, replays_once, works_once}

-- an answer of a kind is the only one
abbrev Once : (Answer → Type 0) → (Answer → Type 0) → Type 0
Once Of Is = (a b : Answer) → Of a → Is a → Is b → b ≡ a

after_once : {A : Type 0} (Of : Answer → Type 0) (r : Result A Refused) (from : Origin) (Next : Origin → A → Answer → Type 0) → ((x : A) → Once Of (Next from x))
    → Once Of (After Next from r)
after_once Of (Err refused) from Next once a b k x y = y.0 ∙ sym x.0
after_once Of (Ok accepted) from Next once a b k x y = once accepted a b k x y

some_once : (Of : Answer → Type 0) (o : Option (List ℕ)) (Is : List ℕ → Answer → Type 0) → ((bytes : List ℕ) → Once Of (Is bytes))
    → Once Of (λ a. IsSomeAnd o (λ bytes. Is bytes a))
some_once Of None Is once a b k x y = absurd x
some_once Of (Some bytes) Is once a b k x y = once bytes a b k x y

reads_once : {A : Type 0} (Of : Answer → Type 0) (from : Origin) (name : List ℕ) (kind : FileKind A) (Next : Origin → A → Answer → Type 0)
    → ((rest : Origin) (x : A) → Once Of (Next rest x)) → Once Of (Reads from name kind Next)
reads_once Of (by_name entries) name kind Next once =
    some_once Of (bytes_of entries name) (λ bytes. After Next (by_name entries) (judged kind bytes))
    (λ bytes. after_once Of (judged kind bytes) (by_name entries) Next (once (by_name entries)))
reads_once Of (by_log []) name kind Next once = λ a b k x y. absurd x
reads_once Of (by_log (r ∷ rs)) name kind Next once =
    λ a b k x y. after_once Of (judged_at kind r.stage r.given) (by_log rs) Next (once (by_log rs)) a b k x.1.1 y.1.1

-- a file, behind which there is an answer and nothing more is read
last_once : {A : Type 0} (Of : Answer → Type 0) (from : Origin) (name : List ℕ) (kind : FileKind A) (Is : A → Answer → Type 0) → ((x : A) → Once Of (Is x))
    → Once Of (Reads from name kind (λ rest x. Ends (Is x) rest))
last_once Of from name kind Is once = reads_once Of from name kind (λ rest x. Ends (Is x) rest) (λ rest found a b k x y. once found a b k x.0 y.0)

emits_once : (channel device : ℕ) (bytes : List ℕ) (a b : Answer) → EmitAnswers channel device bytes a → EmitAnswers channel device bytes b → b ≡ a
emits_once channel device bytes a b (r, x, r_may, x_is) (q, y, q_may, y_is) = sym y_is ∙ ap emit_answer (emitted_once bytes channel device q r y x) ∙ x_is

shows_once : (page : Page) (a b : Answer) → Shows page a → Shows page b → b ≡ a
shows_once page (Ok text) (Ok other) x y = ap (λ t. Ok t) (y ∙ sym x)
shows_once page (Ok text) (Err r) x y = absurd y
shows_once page (Err r) b x y = absurd x

command_once : (Of : Answer → Type 0) (from : Origin) (command : Option Command)
    → ((files : Recorded) → command ≡ Some (race files) → (plan : PlanData) (past : List RawEvent) → Once Of (Races plan past))
    → Once Of (AnswersTo from command)
command_once Of from None races = λ a b k x y. absurd x
command_once Of from (Some (replay files)) races =
    reads_once Of from files.session session_file (RecordingAnswers files.events)
    (λ rest plan. last_once Of rest files.events (events_file (devices_of plan)) (RunAnswers plan) (λ events a b k x y. replays_once plan (reverse events) a b x y))
command_once Of from (Some (race files)) races =
    reads_once Of from files.session session_file (ThreadsAnswer files.events)
    (λ rest plan. last_once Of rest files.events (events_file (devices_of plan)) (RaceAnswers plan) (λ events. races files refl plan (reverse events)))
command_once Of from (Some (check files order)) races =
    reads_once Of from files.session session_file (CheckAnswers files.events order)
    (λ rest plan. reads_once Of rest files.events (events_file (devices_of plan)) (OrderedBy order plan)
    (λ more events. last_once Of more order order_file (OrderAnswers plan events) (λ lines a b k x y. follows_once plan (reverse events) lines a b x y)))
command_once Of from (Some (verify stream)) races = last_once Of from stream stream_file StreamAnswers (λ bytes a b k x y. sym y ∙ x)
command_once Of from (Some (work seed packets)) races = λ a b k x y. works_once seed packets a b x.0 y.0
command_once Of from (Some (batch stream frame)) races = last_once Of from stream stream_file (BatchAnswers frame) (λ bytes a b k x y. sym y ∙ x)
command_once Of from (Some (hover files mouse)) races =
    reads_once Of from files.session session_file (MouseAnswers files.events mouse)
    (λ rest plan. last_once Of rest files.events (events_file (mouse_alone mouse)) (HoverAnswers plan) (λ events a b k x y. sym y ∙ x))
command_once Of from (Some (emit stream channel device)) races =
    last_once Of from stream stream_file (EmitAnswers channel device) (λ bytes a b k x y. emits_once channel device bytes a b x y)
command_once Of from (Some (judge stream)) races = last_once Of from stream stream_file JudgeAnswers (λ bytes a b k x y. sym y ∙ x)
command_once Of from (Some (compare want got us pixels want_channel got_channel each_move)) races =
    reads_once Of from want want_file (GotAnswers got (comparison us pixels want_channel got_channel each_move))
    (λ rest wanted. last_once Of rest got got_file (SameAnswers (comparison us pixels want_channel got_channel each_move) wanted) (λ came a b k x y. sym y ∙ x))
command_once Of from (Some (inspect files)) races =
    reads_once Of from files.session keyed_file (CountsAnswer files.events)
    (λ rest session. last_once Of rest files.events (lined_file (devices_of session.0)) (InspectAnswers session) (λ recording a b k x y. sym y ∙ x))
command_once Of from (Some (why files)) races =
    reads_once Of from files.session session_file (CausesAnswer files.events)
    (λ rest plan. last_once Of rest files.events (events_file (devices_of plan)) (WhyAnswers plan) (λ events a b k x y. explains_once plan (reverse events) a b x y))
command_once Of from (Some (show page)) races = λ a b k x y. shows_once page a b x.0 y.0

-- the same, of words that may be of no form
words_once : (Of : Answer → Type 0) (from : Origin) (words : List (List ℕ)) (command : Option Command)
    → ((files : Recorded) → command ≡ Some (race files) → (plan : PlanData) (past : List RawEvent) → Once Of (Races plan past))
    → Once Of (WordsAnswer from words command)
words_once Of from words None races = λ a b k x y. y.0 ∙ sym x.0
words_once Of from words (Some command) races = command_once Of from (Some command) races

pub one_answer : OneAnswer
one_answer from words a b alone x y =
    words_once (λ c. Unit {0}) from words (form_of words) (λ files is. absurd (subst IsAlone is alone)) a b tt x y

-- a refusal
abbrev IsRefusal : Answer → Type 0
IsRefusal (Ok text) = ⊥
IsRefusal (Err r) = Unit {0}

race_refusal : (plan : PlanData) (past : List RawEvent) → Once IsRefusal (Races plan past)
race_refusal plan past (Ok text) b k x y = absurd k
race_refusal plan past (Err r) b k x y = races_refused plan past r b x y

pub one_refusal : OneRefusal
one_refusal from words r a x y = words_once IsRefusal from words (form_of words) (λ files is plan past. race_refusal plan past) (Err r) a tt x y
