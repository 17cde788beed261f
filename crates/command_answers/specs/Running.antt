-- A run as `replay` and `why` answer it.
use Rattle.std.specs.Prelude.{reverse, ℕ, List, [], ◌∷◌, Option, Err, ⊤}
use Rattle.outside_io.specs.Trace.{Reading}
use Rattle.outside_io.specs.Outside.{Entry}
use Rattle.raw_events.specs.declared.event.RawEvent.{RawEvent}
use Rattle.dispatch_history.specs.Effect.{Effect}
use Rattle.session_plan.specs.Plan.{PlanData}
use Rattle.stream_text.specs.StreamsHistory.{streams_text}
use Rattle.why_text.specs.Text.{why_text}
use Rattle.schedule.specs.declared.keeping.Lines.{Lines}
use Rattle.schedule.specs.declared.keeping.Lines.TheVariants as lines
use Rattle.command_words.specs.Command.{Recorded}
use Rattle.command_files.specs.declared.refusal.Refusal.{Refusal}
use Rattle.command_files.specs.Devices.{devices_of}
use Rattle.command_files.specs.Inputs.{events_file, recording_limit, session_file, session_limit}
use Rattle.command_files.specs.Judged.{Answer, Ends, Origin, Reads, by_log}
use Rattle.command_files.specs.Logged.{Logged, RefusesBy}
use Rattle.command_answers.specs.declared.running.Sending.{Sending}
use Rattle.command_answers.specs.declared.running.Sending.TheVariants.{Streams, Causes}
use Rattle.command_answers.specs.Replay.{Replays}
use Rattle.command_answers.specs.Why.{Explains}

-- the lines that a run keeps for this kind of text
abbrev pub lines_of : Sending → Lines
lines_of Streams = lines.Kept
lines_of Causes = lines.Causes

-- the text of a run with these effects, of devices on these displays and of channels with these names
abbrev pub text_by : Sending → (displays : List ℕ) (names : List (List ℕ)) → List Effect → List ℕ
text_by Streams displays names es = streams_text names es
text_by Causes displays names es = why_text displays es

-- the text of a session for the events of a recording, or that its run is too long
abbrev pub Comes : Sending → PlanData → List RawEvent → Answer → Type 0
Comes Streams plan past a = Replays plan past a
Comes Causes plan past a = Explains plan past a

-- the result of a session for the events of a recording, in order
abbrev pub RunSends : Sending → PlanData → List RawEvent → Answer → Type 0
RunSends what plan events a = Comes what plan (reverse events) a

-- the answer once the session is accepted: the recording is judged, and then comes the run
abbrev pub RecordingSends : Sending → List ℕ → Origin → PlanData → Answer → Type 0
RecordingSends what events from plan a = Reads from events (events_file (devices_of plan)) (λ rest given. Ends (RunSends what plan given) rest) a

-- the session and the recording, each with its size limit
abbrev pub run_files : Recorded → List (List ℕ × ℕ)
run_files files = (files.session, session_limit) ∷ (files.events, recording_limit) ∷ []

-- enough of both was read to make this the answer
abbrev pub SaysOf : Sending → Option (List Entry) → List Reading → List Reading → Recorded → Answer → Type 0
SaysOf what told before now files a =
    Logged told before now (run_files files) (λ rs. Reads (by_log rs) files.session session_file (RecordingSends what files.events) a)

-- there is no text: a read failed, memory ran out, or this is the answer; files were read
abbrev pub StopsOf : Sending → Option (List Entry) → List Reading → List Reading → Recorded → ℕ → ℕ → Refusal → Type 0
StopsOf what told before now files faults_before faults_now r =
    RefusesBy (λ x. SaysOf what told before now files (Err x)) (Logged told before now (run_files files) (λ rs. ⊤)) faults_before faults_now r
