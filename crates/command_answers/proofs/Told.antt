-- The answer by what was read is that by the files, if these are known and could be read.
use Rattle.std.proofs.Common.{List, Option, None, Some}
use Rattle.outside_io.specs.Trace.{Reading}
use Rattle.outside_io.specs.Outside.{Entry}
use Rattle.command_words.specs.Command.{Command, replay, race, check, verify, work, batch, hover, emit, judge, compare, inspect, why, show}
use Rattle.command_files.specs.Devices.{devices_of}
use Rattle.command_files.specs.Inputs.{events_file, got_file, keyed_file, lined_file, order_file, session_file, stream_file, want_file}
use Rattle.command_files.specs.Judged.{Answer, Ends, IfTold, OfContents, by_log, by_name}
use Rattle.command_files.specs.Logged.{AllAgree}
use Rattle.command_files.proofs.Answering.{told_map}
use Rattle.command_files.proofs.Logs.{reads_told}
use Rattle.command_answers.specs.Batch.{BatchAnswers}
use Rattle.command_answers.specs.Checked.{CheckAnswers, OrderAnswers, OrderedBy}
use Rattle.command_answers.specs.Compare.{GotAnswers, SameAnswers, comparison}
use Rattle.command_answers.specs.Emit.{EmitAnswers}
use Rattle.command_answers.specs.Hover.{HoverAnswers, MouseAnswers, mouse_alone}
use Rattle.command_answers.specs.Inspect.{CountsAnswer, InspectAnswers}
use Rattle.command_answers.specs.Judge.{JudgeAnswers}
use Rattle.command_answers.specs.Program.{Answers, AnswersTo}
use Rattle.command_answers.specs.Race.{RaceAnswers, ThreadsAnswer}
use Rattle.command_answers.specs.Replay.{RecordingAnswers, RunAnswers}
use Rattle.command_answers.specs.Verify.{StreamAnswers}
use Rattle.command_answers.specs.Why.{CausesAnswer, WhyAnswers}

pub command_sent : (entries : List Entry) (command : Option Command) (rs : List Reading) (a : Answer) → AllAgree entries rs → OfContents a → AnswersTo (by_log rs) command a
    → AnswersTo (by_name entries) command a
command_sent entries None rs a agree sound h = absurd h
command_sent entries (Some (replay files)) rs a agree sound h =
    reads_told entries files.session session_file (RecordingAnswers files.events) rs a agree sound
    (λ ys more plan. reads_told entries files.events (events_file (devices_of plan)) (λ rest given. Ends (RunAnswers plan given) rest) ys a more sound (λ zs all given k. (k.0, tt))) h
command_sent entries (Some (race files)) rs a agree sound h =
    reads_told entries files.session session_file (ThreadsAnswer files.events) rs a agree sound
    (λ ys more plan. reads_told entries files.events (events_file (devices_of plan)) (λ rest given. Ends (RaceAnswers plan given) rest) ys a more sound (λ zs all given k. (k.0, tt))) h
command_sent entries (Some (check files order)) rs a agree sound h =
    reads_told entries files.session session_file (CheckAnswers files.events order) rs a agree sound
    (λ ys more plan. reads_told entries files.events (events_file (devices_of plan)) (OrderedBy order plan) ys a more sound
    (λ zs all given. reads_told entries order order_file (λ last lines. Ends (OrderAnswers plan given lines) last) zs a all sound (λ us rest lines k. (k.0, tt)))) h
command_sent entries (Some (verify stream)) rs a agree sound h =
    reads_told entries stream stream_file (λ rest bytes. Ends (StreamAnswers bytes) rest) rs a agree sound (λ ys more bytes k. (k.0, tt)) h
command_sent entries (Some (work seed packets)) rs a agree sound h = (h.0, tt)
command_sent entries (Some (batch stream frame)) rs a agree sound h =
    reads_told entries stream stream_file (λ rest bytes. Ends (BatchAnswers frame bytes) rest) rs a agree sound (λ ys more bytes k. (k.0, tt)) h
command_sent entries (Some (hover files mouse)) rs a agree sound h =
    reads_told entries files.session session_file (MouseAnswers files.events mouse) rs a agree sound
    (λ ys more plan. reads_told entries files.events (events_file (mouse_alone mouse)) (λ rest given. Ends (HoverAnswers plan given) rest) ys a more sound (λ zs all given k. (k.0, tt))) h
command_sent entries (Some (emit stream channel device)) rs a agree sound h =
    reads_told entries stream stream_file (λ rest bytes. Ends (EmitAnswers channel device bytes) rest) rs a agree sound (λ ys more bytes k. (k.0, tt)) h
command_sent entries (Some (judge stream)) rs a agree sound h =
    reads_told entries stream stream_file (λ rest bytes. Ends (JudgeAnswers bytes) rest) rs a agree sound (λ ys more bytes k. (k.0, tt)) h
command_sent entries (Some (compare want got us pixels want_channel got_channel each_move)) rs a agree sound h =
    reads_told entries want want_file (GotAnswers got (comparison us pixels want_channel got_channel each_move)) rs a agree sound
    (λ ys more sections. reads_told entries got got_file (λ rest came. Ends (SameAnswers (comparison us pixels want_channel got_channel each_move) sections came) rest) ys a more sound (λ zs all came k. (k.0, tt))) h
command_sent entries (Some (inspect files)) rs a agree sound h =
    reads_told entries files.session keyed_file (CountsAnswer files.events) rs a agree sound
    (λ ys more session. reads_told entries files.events (lined_file (devices_of session.0)) (λ rest given. Ends (InspectAnswers session given) rest) ys a more sound (λ zs all given k. (k.0, tt))) h
command_sent entries (Some (why files)) rs a agree sound h =
    reads_told entries files.session session_file (CausesAnswer files.events) rs a agree sound
    (λ ys more plan. reads_told entries files.events (events_file (devices_of plan)) (λ rest given. Ends (WhyAnswers plan given) rest) ys a more sound (λ zs all given k. (k.0, tt))) h
command_sent entries (Some (show page)) rs a agree sound h = (h.0, tt)

-- the answer to a command, where it is known what the files hold
pub answers_told : (told : Option (List Entry)) (before now : List Reading) (command : Command) (a : Answer) → OfContents a → Answers told before now command a
    → IfTold told (λ entries. AnswersTo (by_name entries) (Some command) a)
answers_told told before now command a sound log =
    told_map told (λ entries. AllAgree entries log.readings) (λ entries. AnswersTo (by_name entries) (Some command) a)
    (λ entries agree. command_sent entries (Some command) log.readings a agree sound log.holds) log.agree
