use Rattle.std.proofs.Common.{◌≡◌, ℕ, []}
use Rattle.turnstile.specs.Views.{waited}
use Rattle.turnstile.proofs.turnstile.Turnstile.wait_turn.Given as goal

abbrev pub invariant-loop : goal.invariant-loop
invariant-loop g l =
    (goal.iterator-loop g).can_next l.iterator' × (goal.iterator-loop g).is_finite l.iterator'
    × (l.token.table_id ≡ l.fn.token.table_id) × ((n : ℕ) × (l.token.me ≡ (waited n l.fn.token.me.0, [])))
