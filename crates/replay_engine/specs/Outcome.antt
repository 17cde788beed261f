-- The result of a run: how its status, its text and its line relate to what the program answers.
use Rattle.std.specs.Prelude.{codes, ◌≡◌, ◌≢◌, ℕ, nat_eq, ◌||◌, Bool, List, [], Option, Some, None, Ok, Err, ⊤, IsTrue, ◌⊎◌}
use Rattle.outside_io.specs.Trace.{Reading, Writing}
use Rattle.outside_io.specs.Outside.{Entry, Rose}
use Rattle.text_output.specs.Passing.{StopsText, WritesText, Tells as TellsLine}
use Rattle.command_words.specs.Command.{Command, replay, race, check, verify, work, batch, hover, emit, judge, compare, inspect, why, show}
use Rattle.command_words.specs.Forms.{form_of}
use Rattle.command_files.specs.Inputs.{AreAccepted, IsAccepted, IsWant}
use Rattle.command_files.specs.Judged.{Answer, IfTold, OfContents, by_log, by_name}
use Rattle.command_files.specs.Logged.{Logged, NoneFailed}
use Rattle.command_files.specs.Refused.{Refused}
use Rattle.command_answers.specs.Program.{IsAnswer, files_of}

-- The files lend each name in the words: that of a recording only if the session is accepted, that of an order file
-- only if both are, and that of the actual streams only if the expected ones are accepted.
abbrev pub LendsNames : Option (List Entry) → (List ℕ → Bool) → Option Command → Type 0
LendsNames told lends None = ⊤
LendsNames told lends (Some (replay files)) = IsTrue (lends files.session) × (IsAccepted told files.session → IsTrue (lends files.events))
LendsNames told lends (Some (race files)) = IsTrue (lends files.session) × (IsAccepted told files.session → IsTrue (lends files.events))
LendsNames told lends (Some (check files order)) =
    IsTrue (lends files.session) × (IsAccepted told files.session → IsTrue (lends files.events))
    × (AreAccepted told files.session files.events → IsTrue (lends order))
LendsNames told lends (Some (verify stream)) = IsTrue (lends stream)
LendsNames told lends (Some (work seed packets)) = ⊤
LendsNames told lends (Some (batch stream frame)) = IsTrue (lends stream)
LendsNames told lends (Some (hover files mouse)) = IsTrue (lends files.session) × (IsAccepted told files.session → IsTrue (lends files.events))
LendsNames told lends (Some (emit stream channel device)) = IsTrue (lends stream)
LendsNames told lends (Some (judge stream)) = IsTrue (lends stream)
LendsNames told lends (Some (compare want got us pixels want_channel got_channel each_move)) = IsTrue (lends want) × (IsWant told want → IsTrue (lends got))
LendsNames told lends (Some (inspect files)) = IsTrue (lends files.session) × (IsAccepted told files.session → IsTrue (lends files.events))
LendsNames told lends (Some (why files)) = IsTrue (lends files.session) × (IsAccepted told files.session → IsTrue (lends files.events))
LendsNames told lends (Some (show page)) = ⊤

-- What the program was asked: its words, what the files hold where that is known, and the log of the readings and the count of faults of the
-- files, before and now.
pub record Asked : Type 0 where
  pub words : List (List ℕ)
  pub told : Option (List Entry)
  pub before : List Reading
  pub now : List Reading
  pub faults_before : ℕ
  pub faults_now : ℕ

-- what was asked, with these words, over files with these contents, log and count
abbrev pub asked : List (List ℕ) → Option (List Entry) → List Reading → List Reading → ℕ → ℕ → Asked
asked words told before now faults_before faults_now =
    record { words = words; told = told; before = before; now = now; faults_before = faults_before; faults_now = faults_now }

-- the files of the words, if these are of a command
abbrev pub files_in : Option Command → List (List ℕ × ℕ)
files_in None = []
files_in (Some command) = files_of command

-- Files of the words were read, in their order, each once and at most one byte past its limit, and no other. None was
-- opened after one that could not be read.
abbrev pub ReadsInTurn : Asked → (List Reading → Type 0) → Type 0
ReadsInTurn q Holds = Logged q.told q.before q.now (files_in (form_of q.words)) Holds

-- This is what the program answers to the words, by what was read of their files; and by what the files hold, where
-- that is known and none of them could not be read.
abbrev pub ComesTo : Asked → Answer → Type 0
ComesTo q a =
    ReadsInTurn q (λ readings. IsAnswer (by_log readings) q.words a)
    × (OfContents a → IfTold q.told (λ entries. IsAnswer (by_name entries) q.words a))

-- the program answers a text, and the output took it whole, in few pieces
abbrev pub WroteAll : Asked → Writing → Writing → Type 0
WroteAll q before now = (text : List ℕ) × ComesTo q (Ok text) × WritesText before now text

-- the program answers a text, the output took the front of it, and a write failed
abbrev pub WroteFront : Asked → Writing → Writing → Type 0
WroteFront q before now = (text : List ℕ) × ComesTo q (Ok text) × StopsText before now text

-- the program answers a refusal with this status, of which this is so
abbrev pub RefusedBy : Asked → ℕ → (List ℕ → Type 0) → Type 0
RefusedBy q status said = (r : Refused) × (r.status ≡ status) × ComesTo q (Err r) × said r.line

-- a status that exists
abbrev pub is_status : ℕ → Bool
is_status n = nat_eq n 0 || nat_eq n 1 || nat_eq n 2 || nat_eq n 3 || nat_eq n 4 || nat_eq n 5 || nat_eq n 6 || nat_eq n 7

-- the status of an answer: 0 for a text, which is written if the output had no fault
abbrev pub HasStatus : Answer → ℕ → Type 0
HasStatus (Ok text) status = status ≡ 0
HasStatus (Err r) status = status ≡ r.status

-- If neither the files nor the output had a fault, the program answers and its status is that of the answer, or
-- memory ran out.
abbrev pub Completes : Asked → ℕ → ℕ → ℕ → Type 0
Completes q out_before out_now status =
    ¬ (Rose q.faults_before q.faults_now) → ¬ (Rose out_before out_now) → ((a : Answer) × ComesTo q a × HasStatus a status) ⊎ (status ≡ 6)

-- What the output took, by the status: the whole text of the answer on 0, the front of it on 5; on any other status
-- nothing was handed to it.
pub record Writes (q : Asked) (before now : Writing) (status : ℕ) : Type 0 where
  pub whole : status ≡ 0 → WroteAll q before now
  pub front : status ≡ 5 → WroteFront q before now
  pub nothing : status ≢ 0 → status ≢ 5 → now ≡ before

-- What was written to the error sink, by status. On 1, 2, 3, 4 and 7 it is the line of a refusal with this status, which
-- is the program's answer, on 4 for a reading that failed; on 5 and 6 it is the line of a fault or of running out of
-- memory; on 0 it is nothing.
pub record Tells (q : Asked) (faults_before faults_now : ℕ) (before now : Writing) (status : ℕ) : Type 0 where
  pub judged : status ≡ 1 → RefusedBy q 1 (TellsLine faults_before faults_now before now)
  pub usage_told : status ≡ 2 → RefusedBy q 2 (TellsLine faults_before faults_now before now)
  pub refused : status ≡ 3 → RefusedBy q 3 (TellsLine faults_before faults_now before now)
  pub too_much : status ≡ 7 → RefusedBy q 7 (TellsLine faults_before faults_now before now)
  pub unread : status ≡ 4 → RefusedBy q 4 (TellsLine faults_before faults_now before now)
  pub write_line : status ≡ 5 → TellsLine faults_before faults_now before now (codes "write failed\n")
  pub memory_line : status ≡ 6 → TellsLine faults_before faults_now before now (codes "no memory\n")
  pub silent : status ≡ 0 → now ≡ before

-- the ends of a sink in a call: its count of faults and what was written to it, before and now
pub record SinkEnds : Type 0 where
  pub faults_before : ℕ
  pub faults_now : ℕ
  pub before : Writing
  pub now : Writing

-- the ends of a sink with these counts, to which this was written
abbrev pub sink_ends : ℕ → ℕ → Writing → Writing → SinkEnds
sink_ends faults_before faults_now before now =
    record { faults_before = faults_before; faults_now = faults_now; before = before; now = now }

-- How a run ends: with a status that exists, and a text, a line and faults that fit it.
pub record Ends (q : Asked) (out err : SinkEnds) (status : ℕ) : Type 0 where
  pub is : IsTrue (is_status status)
  pub reads : ReadsInTurn q (λ readings. ⊤)
  -- no opening and no read failed, except as 4 says, or before memory ran out
  pub unfailed : status ≢ 4 → status ≢ 6 → ReadsInTurn q NoneFailed
  pub writes : Writes q out.before out.now status
  pub tells : Tells q err.faults_before err.faults_now err.before err.now status
  -- a read or a write failed, if the status says so
  pub read : status ≡ 4 → Rose q.faults_before q.faults_now
  pub write : status ≡ 5 → Rose out.faults_before out.faults_now
