use Rattle.std.proofs.Common.{refl}
use Rattle.turnstile.proofs.Answered.{try_placed}
use Rattle.turnstile.proofs.turnstile.Turnstile.try_step.Goals as goal

pub returns-clause-answer : goal.returns-clause-answer
returns-clause-answer g c =
    try_placed g.M.Machine.legal g.M.Machine.setup g.M.Machine.history c.args.seat.now.token.me c.take.new.token.me c.serve.new.token.me c.args.call c.in-Ok.placed
    c.args.seat.now.idle (c.if-not-take.ensures.taken refl) c.in-Ok.ensures.served
