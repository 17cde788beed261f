use Rattle.std.proofs.Common.{◌≡◌, ℕ, []}
use Rattle.std.specs.Prelude.{vec_len}
use Rattle.replay_actors.specs.Scripts.{calls_at}
use Rattle.replay_actors.proofs.scripts.no_steps.Given as goal

-- as many lanes as were made have no steps
abbrev pub invariant-loop : goal.invariant-loop
invariant-loop l = (vec_len l.scripts ≡ l.counter) × ((k : ℕ) → calls_at l.scripts.items k ≡ [])
