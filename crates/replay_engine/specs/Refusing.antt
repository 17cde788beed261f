-- The result of the steps before the writing.
use Rattle.std.specs.Prelude.{List, ℕ, Result, Ok, Err, ⊤}
use Rattle.command_files.specs.declared.refusal.Refusal.{Refusal}
use Rattle.command_files.specs.Logged.{RefusesBy}
use Rattle.replay_engine.specs.Outcome.{Asked, ComesTo, ReadsInTurn}

-- The result of a command before anything is written: the text of the answer, or why there is none.
abbrev pub CameTo : Asked → Result (List ℕ) Refusal → Type 0
CameTo q (Ok text) = ComesTo q (Ok text)
CameTo q (Err r) = RefusesBy (λ x. ComesTo q (Err x)) (ReadsInTurn q (λ readings. ⊤)) q.faults_before q.faults_now r
