use Rattle.std.proofs.Common.{◌≡◌, ◌<◌, ◌+◌, ℕ, map}
use Rattle.std.specs.Prelude.{vec_len}
use Rattle.dispatch_history.specs.Given.{calls_of_lane}
use Rattle.replay_actors.specs.Session.{step_of}
use Rattle.replay_actors.specs.Scripts.{calls_at}
use Rattle.replay_actors.proofs.scripts.scripts_of.Given as goal

-- each lane has its steps of those that were dealt
abbrev pub invariant-loop-step : goal.invariant-loop-step
invariant-loop-step l = (vec_len l.scripts ≡ 8) × ((k : ℕ) → k < 8 → calls_at l.scripts.items k ≡ calls_of_lane (k + 1) (map step_of l.yielded))
