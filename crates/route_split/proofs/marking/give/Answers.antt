use Rattle.touch_state.specs.Touches.{of_mask, none, nobody}
use Rattle.route_split.proofs.Changing.{changes_at}
use Rattle.route_split.proofs.marking.give.Goals as goal

pub returns : goal.returns
returns c =
    changes_at c.args.states.now c.args.device c.index_of.result c.index-states-index_of.result c.down.new.self (of_mask c.args.windows c.args.id) none c.args.place nobody c.requires c.index_of.ensures.device
    c.index_of.ensures.value c.down.ensures
