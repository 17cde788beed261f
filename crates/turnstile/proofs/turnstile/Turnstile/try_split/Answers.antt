use Rattle.std.proofs.Common.{arith, ap, ◌∙◌}
use Rattle.turnstile.proofs.Steps.{draw}
use Rattle.turnstile.proofs.Dealing.{hands_out}
use Rattle.turnstile.proofs.turnstile.Turnstile.try_split.Goals as goal

pub load-requires : goal.load-requires
load-requires g c =
    let idle = c.args.seat.now.idle in
    (c.requires.seat, omega (arith, c.args.self.now.sized.0), draw g.M.Machine.legal g.M.Machine.setup g.M.Machine.history _ _ c.args.seat.now.token.me idle.2 c.requires.zero)

pub split_seat-token-requires : goal.split_seat-token-requires
split_seat-token-requires g c =
    let told = c.load.ensures in (
      told.0 ∙ c.requires.seat,
      omega (arith, c.args.self.now.sized.0),
      hands_out g.M.Machine.legal g.M.Machine.setup g.M.Machine.history _ c.args.seat.now.token.me.0 c.load.new.seat.me.0 c.args.seat.now.idle.3 c.requires.zero (ap (λ x. x.0) told.2),
    )
