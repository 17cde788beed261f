use Rattle.std.proofs.Common.{arith}
use Rattle.turnstile.proofs.Dealing.{joins}
use Rattle.turnstile.proofs.turnstile.Turnstile.join.Goals as goal

pub join_seat-requires : goal.join_seat-requires
join_seat-requires g c =
    let idle = c.args.seat.now.idle in
    let other = c.args.other.idle in (
      c.requires.seat,
      c.requires.other,
      other.0,
      omega (arith, c.args.self.now.sized.0),
      joins g.M.Machine.legal g.M.Machine.setup g.M.Machine.history _ c.args.seat.now.token.me.0 _ c.args.other.token.me.0 idle.3 other.3 other.2 other.1,
    )
