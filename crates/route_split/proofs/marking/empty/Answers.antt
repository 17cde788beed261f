use Rattle.std.proofs.Common.{true}
use Rattle.touch_state.specs.Touches.{nobody, none}
use Rattle.route_split.proofs.Changing.{changes_at}
use Rattle.route_split.proofs.marking.empty.Goals as goal

pub returns : goal.returns
returns c place =
    changes_at c.args.states.now c.args.device c.index_of.result c.index-states-index_of.result c.reset.new.self none (λ w i. true) place nobody c.requires c.index_of.ensures.device
    c.index_of.ensures.value (c.reset.ensures place)
