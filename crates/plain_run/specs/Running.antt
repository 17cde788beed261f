-- The result of a run of the program inside another one.
use Rattle.std.specs.Prelude.{codes, ◌≡◌, ◌↔◌, ℕ, nat_le, ◌&&◌, min, if◌then◌else◌, Bool, true, false, List, [], ◌∷◌, ◌++◌, length, take, drop, Option, Some, None}
use Rattle.outside_io.specs.Trace.{Reading, Writing}
use Rattle.outside_io.specs.Outside.{Entry}
use Rattle.command_words.specs.Command.{Command, race}
use Rattle.command_words.specs.Forms.{form_of}
use Rattle.replay_engine.specs.Outcome.{Ends, asked, sink_ends}
use Rattle.plain_calls.specs.Status.{status_ok, no_room, no_threads}
use Rattle.plain_run.specs.declared.lent.Lent.{Lent}
use Rattle.plain_run.specs.declared.ran.PlainRan.{PlainRan}

-- the first `count` of three files under their names, if there are that many
abbrev pub files_from : (count : ℕ) → (first second third : List ℕ) → Option (List Entry)
files_from count first second third =
    if nat_le count 3 then Some (take count ((codes "1", first) ∷ (codes "2", second) ∷ (codes "3", third) ∷ [])) else None

-- the files of a run
abbrev pub files_of : Lent → Option (List Entry)
files_of files = files_from files.count files.first.now files.second.now files.third.now

-- the words are those of `race`, which starts threads
abbrev pub is_race : Option Command → Bool
is_race (Some (race files)) = true
is_race command = false

-- nothing was written
abbrev pub unwritten : Writing
unwritten = record { took = []; writes = [] }

-- The program ends with this status over these files, which it has not read before, and prints this text and this line.
pub record RunsTo (words : List (List ℕ)) (files : List Entry) (text line : List ℕ) (status : ℕ) : Type 0 where
  pub readings : List Reading
  pub faults : ℕ
  pub wrote : Writing
  pub write_faults : ℕ
  pub told : Writing
  pub send_faults : ℕ
  pub text_is : text ≡ wrote.took
  pub line_is : line ≡ told.took
  pub ends :
      Ends (asked words (Some files) [] readings 0 faults) (sink_ends 0 write_faults unwritten wrote) (sink_ends 0 send_faults unwritten told) status
  pub usage : (form_of words ≡ None) ↔ (status ≡ 2)

-- A text goes to a buffer: as much of its front as there is room for. The buffer after it stays as it was, and the
-- length of the text is returned.
abbrev pub Fills : (text before after : List ℕ) → (len : ℕ) → Type 0
Fills text before after len =
    (len ≡ length text) × (after ≡ take (min (length before) (length text)) text ++ drop (min (length before) (length text)) before)

-- what a caller lends: two buffers, and where the result of the run is written
pub record Places : Type 0 where
  pub out : List ℕ
  pub err : List ℕ
  pub ran : PlainRan

-- these buffers, and this result is written
abbrev pub places : (out err : List ℕ) → PlainRan → Places
places out err ran = record { out = out; err = err; ran = ran }

-- there was room for both texts
abbrev pub had_room : Places → Bool
had_room p = nat_le p.ran.out_len (length p.out) && nat_le p.ran.err_len (length p.err)

-- The program ran: its text and its line are in the buffers as far as there is room, and the status says whether there is.
pub record Ran (words : List (List ℕ)) (files : List Entry) (status : ℕ) (before after : Places) : Type 0 where
  pub text : List ℕ
  pub line : List ℕ
  pub runs : RunsTo words files text line after.ran.status
  pub out : Fills text before.out after.out after.ran.out_len
  pub err : Fills line before.err after.err after.ran.err_len
  pub room : status ≡ (if had_room after then status_ok else no_room)

-- the words of `race` are refused and change nothing, and others run
abbrev pub RunsAlone : (race : Bool) → List (List ℕ) → List Entry → ℕ → (before after : Places) → Type 0
RunsAlone true words files status before after = (status ≡ no_threads) × (after ≡ before)
RunsAlone false words files status before after = Ran words files status before after

-- The result of a run, by whether memory for its words ran out: then nothing changes.
abbrev pub RunGoes : (wanting : Bool) → List (List ℕ) → List Entry → ℕ → (before after : Places) → Type 0
RunGoes true words files status before after = after ≡ before
RunGoes false words files status before after = RunsAlone (is_race (form_of words)) words files status before after
