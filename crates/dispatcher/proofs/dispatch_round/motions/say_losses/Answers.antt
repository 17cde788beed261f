use Rattle.std.proofs.Common.{ℕ, List, flat_map, refl, arith}
use Rattle.routing_rules.specs.Outgoing.{devices}
use Rattle.dispatcher.specs.DispatchChannels.Table.{input_of}
use Rattle.dispatcher.specs.DispatchRound.Bodies.{told}
use Rattle.dispatcher.specs.DispatchRound.Saying.{losses}
use Rattle.dispatcher.proofs.DispatchRound.Stepping.{say_rest, room_for_device, losses_next}
use Rattle.dispatcher.proofs.dispatch_round.motions.say_losses.Goals as goal

pub say_loss-requires : goal.say_loss-requires
say_loss-requires c =
    room_for_device c.args.to.now.window c.devices.place c.device_at.result (input_of c.args.channels.now c.args.to.now.window)
    (input_of c.devices.channels c.args.to.now.window) c.devices.channels
    c.devices-test.true c.device_at.ensures c.devices.invariant.1 c.devices.invariant.0

pub devices-preserved : goal.devices-preserved
devices-preserved c =
    losses_next c.args.to.now c.args.touches.now c.devices.place c.device_at.result (input_of c.args.channels.now c.args.to.now.window)
    c.args.channels.now c.devices.channels c.say_loss.new.channels
    c.devices-test.true c.device_at.ensures c.devices.invariant.1 c.devices.invariant.0 c.devices.invariant.2 c.say_loss.ensures

pub returns : goal.returns
returns c =
    c.devices.invariant.2 c.devices.channels
    (say_rest c.args.to.now (λ (ds : List ℕ). told c.args.to.now.covers.now c.args.to.now.window (flat_map (losses c.args.touches.now c.args.to.now.window (input_of c.args.channels.now c.args.to.now.window)) ds)) devices
    c.devices.place c.devices.channels (omega (arith, c.devices-test.false)) refl)
