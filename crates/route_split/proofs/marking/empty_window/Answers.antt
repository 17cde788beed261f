use Rattle.std.proofs.Common.{◌&&◌, ◌==◌}
use Rattle.touch_state.specs.Touches.{of_set, nobody}
use Rattle.pilfer_monitor.proofs.Takes.{resent}
use Rattle.route_split.proofs.Changing.{all_of_it}
use Rattle.route_split.proofs.marking.empty_window.Goals as goal

pub returns-then-mask_has : goal.returns-then-mask_has
returns-then-mask_has c place =
    resent c.args.state.now c.lose.new.self (of_set c.args.channel c.held-ids.result) (λ w i. w == c.args.channel && c.args.emptied) place nobody
    (all_of_it c.args.state.now c.args.channel c.held-ids.result c.args.emptied c.held-ids.ensures c.if-emptied.true) (c.lose.ensures place)
