use Rattle.std.proofs.Common.{arith}
use Rattle.std.specs.Option.{option_copied}
use Rattle.dispatcher.proofs.DispatchRound.Saying.{gets_less}
use Rattle.dispatcher.proofs.DispatchRound.Getting.{room_for_keys, room_for_change, gets_round}
use Rattle.dispatcher.proofs.dispatch_round.send.send_one.Goals as goal

pub say_keys-requires : goal.say_keys-requires
say_keys-requires c =
    gets_less c.args.to.now.window _ _ c.say_motions.new.channels
    (room_for_keys c.args.round.now c.args.touches.now (option_copied c.args.losses) c.args.to.now c.args.channels.now c.say_motions.new.channels c.keys_to.result.now c.say_motions.ensures
    c.keys_to.ensures c.requires)
    (omega arith)

pub say_change-requires : goal.say_change-requires
say_change-requires c =
    room_for_change c.args.round.now c.args.to.now c.say_motions.new.channels c.say_keys.new.channels c.keys_to.result.now c.focus_change.result c.say_keys.ensures
    c.focus_change.ensures
    (room_for_keys c.args.round.now c.args.touches.now (option_copied c.args.losses) c.args.to.now c.args.channels.now c.say_motions.new.channels c.keys_to.result.now c.say_motions.ensures
    c.keys_to.ensures c.requires)

pub returns : goal.returns
returns c =
    gets_round c.args.round.now c.args.touches.now (option_copied c.args.losses) c.args.to.now c.args.channels.now c.say_motions.new.channels c.say_keys.new.channels c.say_change.new.channels
    c.keys_to.result.now c.focus_change.result
    c.say_motions.ensures
    c.say_keys.ensures
    c.say_change.ensures
    c.keys_to.ensures
    c.focus_change.ensures
