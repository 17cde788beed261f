use Rattle.input_types.specs.declared.message.Body.TheVariants.{Key as KeyBody}
use Rattle.dispatcher.proofs.DispatchRound.Saying.{sends_one}
use Rattle.dispatcher.proofs.dispatch_round.say.say_key.Goals as goal

pub returns : goal.returns
returns c = sends_one c.args.to.now (KeyBody c.args.message.now) _ _ (c.send_key.ensures c.args.to.now.origin) c.requires.opened
