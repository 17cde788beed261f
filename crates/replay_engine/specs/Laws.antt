-- Proved facts about how a run ends.
use Rattle.std.specs.Prelude.{ℕ}
use Rattle.replay_engine.specs.Outcome.{Asked, Completes, Ends, SinkEnds}

-- A run over files and an output that had no fault ends with the program's answer, or memory ran out.
abbrev pub RunsComplete : Type 0
RunsComplete =
    (q : Asked) (out err : SinkEnds) (status : ℕ) → Ends q out err status → Completes q out.faults_before out.faults_now status
