use Rattle.touch_state.specs.Touches.{nobody, none, of_all}
use Rattle.route_split.proofs.Changing.{changes_at}
use Rattle.route_split.proofs.marking.lift.Goals as goal

pub returns : goal.returns
returns c place =
    changes_at c.args.states.now c.args.device c.index_of.result c.index-states-index_of.result c.up.new.self none (of_all c.args.id) place nobody c.requires c.index_of.ensures.device
    c.index_of.ensures.value (c.up.ensures place)
