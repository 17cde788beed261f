use Rattle.turnstile.specs.Seats.{IsOf}
use Rattle.turnstile_cases.proofs.counting.make_calls.Given as goal

abbrev pub invariant-loop : goal.invariant-loop
invariant-loop g l = IsOf l.turnstile l.seat
