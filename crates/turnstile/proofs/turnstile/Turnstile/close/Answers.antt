use Rattle.std.proofs.Common.{ap, ◌∙◌}
use Rattle.turnstile.proofs.Taken.{held_first}
use Rattle.turnstile.proofs.Answered.{closes_out}
use Rattle.turnstile.proofs.turnstile.Turnstile.close.Goals as goal

pub exchange-requires : goal.exchange-requires
exchange-requires g c =
    let waited = c.wait_turn.ensures in
    (waited.same ∙ c.requires, held_first c.wait_turn.new.token.me _ (ap (λ x. x.1) waited.taken.1.3))

pub returns-clause-history : goal.returns-clause-history
returns-clause-history g c =
    let waited = c.wait_turn.ensures.taken in
    (closes_out g.M.Machine.legal g.M.Machine.setup g.M.Machine.history c.args.seat.token.me c.wait_turn.new.token.me c.in-Some.machine waited.0 c.exchange.result
    waited.1 c.exchange.ensures.2 c.in-Some.is).1
