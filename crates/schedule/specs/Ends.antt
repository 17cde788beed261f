-- When a run ends.
use Rattle.std.specs.Prelude.{ℕ, max, List, [], ◌∷◌}
use Rattle.dispatch_history.specs.History.{moment_of}
use Rattle.schedule.specs.declared.plan.Step.{Step}

-- the latest of a time and the times of some steps
abbrev pub last_step : ℕ → List Step → ℕ
last_step t [] = t
last_step t (s ∷ ss) = last_step (max t (moment_of s.call)) ss
