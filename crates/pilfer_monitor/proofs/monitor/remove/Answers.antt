use Rattle.std.proofs.Common.{◌&&◌, ◌==◌, not}
use Rattle.bits32.specs.Set.{is_in}
use Rattle.touch_state.specs.Touches.{of_set, nobody}
use Rattle.pilfer_monitor.proofs.Takes.{resent, not_the_spy}
use Rattle.pilfer_monitor.proofs.monitor.remove.Goals as goal

pub returns-clause-state : goal.returns-clause-state
returns-clause-state c place =
    resent c.args.state.now c.lose.new.self (of_set c.args.channel c.args.ids) (λ w i. w == c.args.channel && (not (w == c.args.spy) && is_in i c.args.ids)) place nobody
    (λ w i h. not_the_spy c.args.channel c.args.spy c.args.ids c.if-channel-spy.false w i) (c.lose.ensures place)
