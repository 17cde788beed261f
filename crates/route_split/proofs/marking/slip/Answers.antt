use Rattle.touch_state.specs.Touches.{nobody, one}
use Rattle.route_split.proofs.Changing.{changes_at}
use Rattle.route_split.proofs.marking.slip.Goals as goal

pub returns : goal.returns
returns c =
    changes_at c.args.states.now c.args.device c.index_of.result c.index-states-index_of.result c.moved.new.self (one c.args.to c.args.id) (one c.args.from c.args.id) c.args.place nobody c.requires.tables c.index_of.ensures.device
    c.index_of.ensures.value c.moved.ensures
