use Rattle.std.proofs.Common.{arith}
use Rattle.turnstile.proofs.Taken.{held_first, same_table, holder_commits}
use Rattle.turnstile.proofs.turnstile.Turnstile.serve.Goals as goal

pub exchange-requires : goal.exchange-requires
exchange-requires g c = (c.requires.turn.0, held_first c.args.token.now.me _ c.requires.turn.1.1.hand)

pub store-requires : goal.store-requires
store-requires g c =
    let one = c.exchange.ensures in
    let two = c.exchange-2.ensures in
    let step = c.in-Ok.ensures in (
      same_table c.exchange-2.new.seat.table_id c.exchange.new.seat.table_id c.args.token.now.table_id c.args.self.now.table.shared.table_id two.0 one.0 c.requires.turn.0,
      omega (arith, c.args.self.now.sized.0),
      holder_commits g.M.Machine.legal g.M.Machine.setup g.M.Machine.history _ _ c.args.token.now.me c.exchange.new.seat.me c.exchange-2.new.seat.me
          c.requires.turn.1.0 c.in-Some.machine c.step-answer.new.self c.exchange.result c.args.number c.args.call c.in-Ok.reply c.places-places.result
          c.requires.turn.1.1 one.2 c.in-Some.is one.3 two.3 c.requires.number step.legal step.history step.setup c.places-places.ensures,
    )
