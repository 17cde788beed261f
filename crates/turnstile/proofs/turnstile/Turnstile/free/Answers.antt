use Rattle.std.proofs.Common.{arith}
use Rattle.turnstile.proofs.Taken.{holder_frees}
use Rattle.turnstile.proofs.turnstile.Turnstile.free.Goals as goal

pub store-requires : goal.store-requires
store-requires g c =
    let h = c.requires.1 in
    (c.requires.0, omega (arith, c.args.self.now.sized.0), holder_frees g.M.Machine.legal g.M.Machine.setup g.M.Machine.history _ _ c.args.token.now.me h.0 h.1)
