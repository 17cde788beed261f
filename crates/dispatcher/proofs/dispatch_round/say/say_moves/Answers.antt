use Rattle.bits32.specs.Set.{is_in}
use Rattle.routing_rules.specs.Outgoing.{listing}
use Rattle.dispatcher.proofs.DispatchRound.Telling.{sends_moves}
use Rattle.dispatcher.proofs.dispatch_round.say.say_moves.Goals as goal

pub returns : goal.returns
returns c =
    let moving = listing (λ i. is_in i c.args.ids) c.new-pointers.result in
    rw (← c.new-pointers.ensures)
    (sends_moves c.args.to.now c.args.motion.now.device c.flags.result moving _ _ c.flags.ensures c.send_moves.ensures c.requires.opened)
