-- The program as a relation between its words, the files and its answer.
use Rattle.std.specs.Prelude.{◌≡◌, List, [], ◌∷◌, Option, Some, None, Err, ℕ, ⊤}
use Rattle.outside_io.specs.Trace.{Reading}
use Rattle.outside_io.specs.Outside.{Entry}
use Rattle.command_words.specs.Command.{Command, replay, race, check, verify, work, batch, hover, emit, judge, compare, inspect, why, show}
use Rattle.command_words.specs.Fault.{words_line}
use Rattle.command_words.specs.Forms.{form_of}
use Rattle.command_files.specs.declared.refusal.Refusal.{Refusal}
use Rattle.command_files.specs.Inputs.{keyed_file, order_limit, recording_limit, session_file, session_limit, stream_file, stream_limit, want_file}
use Rattle.command_files.specs.Judged.{Answer, Ends, Origin, Reads, by_log}
use Rattle.command_files.specs.Logged.{Logged, RefusesBy}
use Rattle.command_files.specs.Refused.{Refused, refused}
use Rattle.command_answers.specs.Batch.{BatchAnswers}
use Rattle.command_answers.specs.Checked.{CheckAnswers}
use Rattle.command_answers.specs.Compare.{GotAnswers, comparison}
use Rattle.command_answers.specs.Emit.{EmitAnswers}
use Rattle.command_answers.specs.Hover.{MouseAnswers}
use Rattle.command_answers.specs.Inspect.{CountsAnswer}
use Rattle.command_answers.specs.Judge.{JudgeAnswers}
use Rattle.command_answers.specs.Page.{Shows}
use Rattle.command_answers.specs.Race.{ThreadsAnswer}
use Rattle.command_answers.specs.Replay.{RecordingAnswers}
use Rattle.command_answers.specs.Verify.{StreamAnswers}
use Rattle.command_answers.specs.Why.{CausesAnswer}
use Rattle.command_answers.specs.Work.{Works}

-- the words are of no form: the line says what is wrong with them
abbrev pub words_refused : List (List ℕ) → Refused
words_refused words = refused 2 (words_line words)

-- a command that starts no threads, or none
abbrev pub IsAlone : Option Command → Type 0
IsAlone (Some (race files)) = ⊥
IsAlone command = ⊤

-- the answer to a command, whose files must exist: under their names, or as they were read in a call
abbrev pub AnswersTo : Origin → Option Command → Answer → Type 0
AnswersTo from None a = ⊥
AnswersTo from (Some (replay files)) a = Reads from files.session session_file (RecordingAnswers files.events) a
AnswersTo from (Some (race files)) a = Reads from files.session session_file (ThreadsAnswer files.events) a
AnswersTo from (Some (check files order)) a = Reads from files.session session_file (CheckAnswers files.events order) a
AnswersTo from (Some (verify stream)) a = Reads from stream stream_file (λ rest bytes. Ends (StreamAnswers bytes) rest) a
AnswersTo from (Some (work seed packets)) a = Ends (Works seed packets) from a
AnswersTo from (Some (batch stream frame)) a = Reads from stream stream_file (λ rest bytes. Ends (BatchAnswers frame bytes) rest) a
AnswersTo from (Some (hover files mouse)) a = Reads from files.session session_file (MouseAnswers files.events mouse) a
AnswersTo from (Some (emit stream channel device)) a =
    Reads from stream stream_file (λ rest bytes. Ends (EmitAnswers channel device bytes) rest) a
AnswersTo from (Some (judge stream)) a = Reads from stream stream_file (λ rest bytes. Ends (JudgeAnswers bytes) rest) a
AnswersTo from (Some (compare want got us pixels want_channel got_channel each_move)) a = Reads from want want_file (GotAnswers got (comparison us pixels want_channel got_channel each_move)) a
AnswersTo from (Some (inspect files)) a = Reads from files.session keyed_file (CountsAnswer files.events) a
AnswersTo from (Some (why files)) a = Reads from files.session session_file (CausesAnswer files.events) a
AnswersTo from (Some (show page)) a = Ends (Shows page) from a

-- the answer to words that give a command, and to words of no form
abbrev pub WordsAnswer : Origin → List (List ℕ) → Option Command → Answer → Type 0
WordsAnswer from words None a = Ends (λ b. b ≡ Err (words_refused words)) from a
WordsAnswer from words (Some command) a = AnswersTo from (Some command) a

-- what the program answers: the text that it writes or why it refuses, from the words and the files
abbrev pub IsAnswer : Origin → List (List ℕ) → Answer → Type 0
IsAnswer from words a = WordsAnswer from words (form_of words) a

-- the files of a command in the order in which they are read, each with its size limit
abbrev pub files_of : Command → List (List ℕ × ℕ)
files_of (replay files) = (files.session, session_limit) ∷ (files.events, recording_limit) ∷ []
files_of (race files) = (files.session, session_limit) ∷ (files.events, recording_limit) ∷ []
files_of (check files order) = (files.session, session_limit) ∷ (files.events, recording_limit) ∷ (order, order_limit) ∷ []
files_of (verify stream) = (stream, stream_limit) ∷ []
files_of (work seed packets) = []
files_of (batch stream frame) = (stream, stream_limit) ∷ []
files_of (hover files mouse) = (files.session, session_limit) ∷ (files.events, recording_limit) ∷ []
files_of (emit stream channel device) = (stream, stream_limit) ∷ []
files_of (judge stream) = (stream, stream_limit) ∷ []
files_of (compare want got us pixels want_channel got_channel each_move) = (want, stream_limit) ∷ (got, stream_limit) ∷ []
files_of (inspect files) = (files.session, session_limit) ∷ (files.events, recording_limit) ∷ []
files_of (why files) = (files.session, session_limit) ∷ (files.events, recording_limit) ∷ []
files_of (show page) = []

-- enough of the files of a command was read to make this its answer
abbrev pub Answers : Option (List Entry) → List Reading → List Reading → Command → Answer → Type 0
Answers told before now command a =
    Logged told before now (files_of command) (λ readings. AnswersTo (by_log readings) (Some command) a)

-- a command has no text: a read failed, memory ran out, or this is its answer; files of it were read
abbrev pub RefusesCommand : Option (List Entry) → List Reading → List Reading → Command → ℕ → ℕ → Refusal → Type 0
RefusesCommand told before now command faults_before faults_now r =
    RefusesBy (λ x. Answers told before now command (Err x)) (Logged told before now (files_of command) (λ readings. ⊤)) faults_before faults_now r
