use Rattle.dispatcher.proofs.DispatchRound.Saying.{sends_one}
use Rattle.dispatcher.proofs.dispatch_round.say.say.Goals as goal

pub returns : goal.returns
returns c = sends_one c.args.to.now c.args.body.now _ _ c.send.ensures c.requires.opened
