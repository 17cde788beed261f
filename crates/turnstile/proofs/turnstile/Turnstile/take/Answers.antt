use Rattle.std.proofs.Common.{arith}
use Rattle.turnstile.proofs.Steps.{take}
use Rattle.turnstile.proofs.turnstile.Turnstile.take.Goals as goal

pub compare_exchange-requires : goal.compare_exchange-requires
compare_exchange-requires g c =
    let idle = c.requires.1 in
    (c.requires.0, omega (arith, c.args.self.now.sized.0), take g.M.Machine.legal g.M.Machine.setup g.M.Machine.history _ _ c.args.token.now.me idle.3 idle.2)
