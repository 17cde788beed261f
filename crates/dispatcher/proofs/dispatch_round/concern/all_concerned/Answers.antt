use Rattle.std.proofs.Common.{ap, ◌∙◌}
use Rattle.route_split.specs.Marking.{may_be_sent}
use Rattle.dispatcher.proofs.DispatchRound.Stepping.{more_devices}
use Rattle.dispatcher.proofs.dispatch_round.concern.all_concerned.Goals as goal

pub devices-preserved : goal.devices-preserved
devices-preserved c w =
    let may = may_be_sent c.args.touches.now c.args.mark.now w in
    more_devices may c.devices.mask c.concerned-mask.result c.devices.place w c.devices-test.true (c.concerned-mask.ensures w ∙ ap may c.device_at.ensures)
    ∙ c.devices.invariant w
