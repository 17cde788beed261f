use Rattle.std.proofs.Common.{arith}
use Rattle.turnstile.proofs.Steps.{look}
use Rattle.turnstile.proofs.turnstile.Turnstile.look.Goals as goal

pub load-seat-requires : goal.load-seat-requires
load-seat-requires g c =
    let idle = c.args.seat.now.idle in
    (c.requires, omega (arith, c.args.self.now.sized.0), look g.M.Machine.legal g.M.Machine.setup g.M.Machine.history _ _ c.args.seat.now.token.me idle.3 idle.2)
