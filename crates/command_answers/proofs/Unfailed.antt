-- Nothing failed where the answer is not for a file that could not be read.
use Rattle.std.proofs.Common.{◌≡◌, ℕ, List, [], Option, None, Some, subst, sym}
use Rattle.outside_io.specs.Trace.{Reading}
use Rattle.command_words.specs.Command.{Command, replay, race, check, verify, work, batch, hover, emit, judge, compare, inspect, why, show}
use Rattle.command_files.specs.Devices.{devices_of}
use Rattle.command_files.specs.Inputs.{events_file, got_file, keyed_file, lined_file, order_file, session_file, stream_file, want_file}
use Rattle.command_files.specs.Judged.{Answer, Ends, OfContents, by_log}
use Rattle.command_files.specs.Logged.{NoneFailed}
use Rattle.command_files.proofs.Logs.{reads_well}
use Rattle.command_answers.specs.Batch.{BatchAnswers}
use Rattle.command_answers.specs.Checked.{CheckAnswers, OrderAnswers, OrderedBy}
use Rattle.command_answers.specs.Compare.{GotAnswers, SameAnswers, comparison}
use Rattle.command_answers.specs.Emit.{EmitAnswers}
use Rattle.command_answers.specs.Hover.{HoverAnswers, MouseAnswers, mouse_alone}
use Rattle.command_answers.specs.Inspect.{CountsAnswer, InspectAnswers}
use Rattle.command_answers.specs.Judge.{JudgeAnswers}
use Rattle.command_answers.specs.Program.{AnswersTo, WordsAnswer}
use Rattle.command_answers.specs.Race.{RaceAnswers, ThreadsAnswer}
use Rattle.command_answers.specs.Replay.{RecordingAnswers, RunAnswers}
use Rattle.command_answers.specs.Verify.{StreamAnswers}
use Rattle.command_answers.specs.Why.{CausesAnswer, WhyAnswers}

none_left : (rs : List Reading) → rs ≡ [] → NoneFailed rs
none_left rs none = subst NoneFailed (sym none) tt

command_well : (command : Option Command) (rs : List Reading) (a : Answer) → OfContents a → AnswersTo (by_log rs) command a → NoneFailed rs
command_well None rs a sound h = absurd h
command_well (Some (replay files)) rs a sound h =
    reads_well files.session session_file (RecordingAnswers files.events) rs a sound
    (λ ys plan. reads_well files.events (events_file (devices_of plan)) (λ rest given. Ends (RunAnswers plan given) rest) ys a sound (λ zs given k. none_left zs k.1)) h
command_well (Some (race files)) rs a sound h =
    reads_well files.session session_file (ThreadsAnswer files.events) rs a sound
    (λ ys plan. reads_well files.events (events_file (devices_of plan)) (λ rest given. Ends (RaceAnswers plan given) rest) ys a sound (λ zs given k. none_left zs k.1)) h
command_well (Some (check files order)) rs a sound h =
    reads_well files.session session_file (CheckAnswers files.events order) rs a sound
    (λ ys plan. reads_well files.events (events_file (devices_of plan)) (OrderedBy order plan) ys a sound
    (λ zs given. reads_well order order_file (λ last lines. Ends (OrderAnswers plan given lines) last) zs a sound (λ us lines k. none_left us k.1))) h
command_well (Some (verify stream)) rs a sound h =
    reads_well stream stream_file (λ rest bytes. Ends (StreamAnswers bytes) rest) rs a sound (λ ys bytes k. none_left ys k.1) h
command_well (Some (work seed packets)) rs a sound h = none_left rs h.1
command_well (Some (batch stream frame)) rs a sound h =
    reads_well stream stream_file (λ rest bytes. Ends (BatchAnswers frame bytes) rest) rs a sound (λ ys bytes k. none_left ys k.1) h
command_well (Some (hover files mouse)) rs a sound h =
    reads_well files.session session_file (MouseAnswers files.events mouse) rs a sound
    (λ ys plan. reads_well files.events (events_file (mouse_alone mouse)) (λ rest given. Ends (HoverAnswers plan given) rest) ys a sound (λ zs given k. none_left zs k.1)) h
command_well (Some (emit stream channel device)) rs a sound h =
    reads_well stream stream_file (λ rest bytes. Ends (EmitAnswers channel device bytes) rest) rs a sound (λ ys bytes k. none_left ys k.1) h
command_well (Some (judge stream)) rs a sound h =
    reads_well stream stream_file (λ rest bytes. Ends (JudgeAnswers bytes) rest) rs a sound (λ ys bytes k. none_left ys k.1) h
command_well (Some (compare want got us pixels want_channel got_channel each_move)) rs a sound h =
    reads_well want want_file (GotAnswers got (comparison us pixels want_channel got_channel each_move)) rs a sound
    (λ ys sections. reads_well got got_file (λ rest came. Ends (SameAnswers (comparison us pixels want_channel got_channel each_move) sections came) rest) ys a sound (λ zs came k. none_left zs k.1)) h
command_well (Some (inspect files)) rs a sound h =
    reads_well files.session keyed_file (CountsAnswer files.events) rs a sound
    (λ ys session. reads_well files.events (lined_file (devices_of session.0)) (λ rest given. Ends (InspectAnswers session given) rest) ys a sound (λ zs given k. none_left zs k.1)) h
command_well (Some (why files)) rs a sound h =
    reads_well files.session session_file (CausesAnswer files.events) rs a sound
    (λ ys plan. reads_well files.events (events_file (devices_of plan)) (λ rest given. Ends (WhyAnswers plan given) rest) ys a sound (λ zs given k. none_left zs k.1)) h
command_well (Some (show page)) rs a sound h = none_left rs h.1

-- the same for words
pub words_well : (words : List (List ℕ)) (command : Option Command) (rs : List Reading) (a : Answer) → OfContents a → WordsAnswer (by_log rs) words command a
    → NoneFailed rs
words_well words None rs a sound h = none_left rs h.1
words_well words (Some command) rs a sound h = command_well (Some command) rs a sound h
