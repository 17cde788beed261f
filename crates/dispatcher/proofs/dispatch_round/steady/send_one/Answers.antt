use Rattle.dispatcher.proofs.DispatchRound.Steadily.{gets_steady, room_for_steady_round, spends_steady}
use Rattle.dispatcher.proofs.dispatch_round.steady.send_one.Goals as goal

pub say_keys-requires : goal.say_keys-requires
say_keys-requires c =
    room_for_steady_round c.args.round.now c.args.touches.now c.args.to.now c.args.channels.now c.say_steady.new.channels c.keys_to.result.now
    c.say_steady.ensures
    c.keys_to.ensures
    c.requires.room

pub returns-clause-gets : goal.returns-clause-gets
returns-clause-gets c =
    gets_steady c.args.round.now c.args.touches.now c.args.to.now c.args.channels.now c.say_steady.new.channels c.say_keys.new.channels
    c.keys_to.result.now c.requires.steady
    c.say_steady.ensures
    c.say_keys.ensures
    c.keys_to.ensures

pub returns-clause-spends : goal.returns-clause-spends
returns-clause-spends c =
    spends_steady c.args.round.now c.args.touches.now c.args.to.now c.args.channels.now c.say_steady.new.channels c.say_keys.new.channels
    c.keys_to.result.now
    c.say_steady.ensures
    c.say_keys.ensures
    c.keys_to.ensures
