use Rattle.std.proofs.Common.{map, length, refl}
use Rattle.input_types.specs.declared.message.Body.TheVariants.{Key}
use Rattle.dispatcher.proofs.DispatchRound.Stepping.{say_next, say_rest, each_next_of, one_less}
use Rattle.dispatcher.proofs.dispatch_round.say.say_keys.Goals as goal

pub loop-message-preserved : goal.loop-message-preserved
loop-message-preserved c = (
  one_less c.args.to.now (Key c.message-item.result) (length c.args.keys.now) c.loop-message.message-index _ _ c.say_key.ensures c.loop-message.invariant.0 c.loop-message-test.true,
  λ u rest. c.loop-message.invariant.1 u
      (say_next c.args.to.now (Key c.message-item.result) _ _ _ c.say_key.new.channels u
      (each_next_of Key c.args.keys.now c.loop-message.message-index c.message-item.result c.loop-message-test.true c.message-item.is)
      c.say_key.ensures
      rest),
)

pub returns : goal.returns
returns c =
    c.loop-message.invariant.1 c.loop-message.channels
    (say_rest c.args.to.now (map Key) c.args.keys.now c.loop-message.message-index c.loop-message.channels c.loop-message-test.false refl)
