use Rattle.turnstile.proofs.Answered.{placed_after}
use Rattle.turnstile.proofs.turnstile.Turnstile.step.Goals as goal

pub returns-clause-answer : goal.returns-clause-answer
returns-clause-answer g c =
    let waited = c.wait_turn.ensures.taken in
    placed_after g.M.Machine.legal g.M.Machine.setup g.M.Machine.history c.args.seat.now.token.me c.wait_turn.new.token.me c.serve.new.token.me c.args.call c.in_ok-placed.placed
    waited.0 c.args.seat.now.idle waited.1 c.in_ok-placed.ensures.served
