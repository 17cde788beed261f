use Rattle.std.proofs.Common.{◌==◌, ◌&&◌, set, get_or, sym, subst}
use Rattle.touch_state.specs.Touches.{none}
use Rattle.pilfer_monitor.specs.Pilfer.{pilfered}
use Rattle.route_split.specs.Tables.{ChangesAll}
use Rattle.route_split.proofs.Changing.{table-at, changes_at}
use Rattle.route_split.proofs.marking.pilfer_of.Goals as goal

pub returns-clause-changes : goal.returns-clause-changes
returns-clause-changes c place =
    subst (λ t. ChangesAll c.args.states.now (set c.args.states.now c.index_of.result c.pilfer_one.new.state) (λ w d i. d == c.args.device && none w i)
    (λ w d i. d == c.args.device && pilfered t c.args.window w i) place (λ w d. d == c.args.device && w == c.args.window))
    (sym (table-at c.args.states.now c.args.device c.index_of.result c.index-states-index_of.result c.requires.tables.eight c.index_of.ensures.device c.index_of.ensures.value))
    (changes_at c.args.states.now c.args.device c.index_of.result c.index-states-index_of.result c.pilfer_one.new.state none
    (pilfered (get_or c.args.states.now c.index_of.result c.index-states-index_of.result) c.args.window) place (λ w. w == c.args.window) c.requires.tables
    c.index_of.ensures.device c.index_of.ensures.value (c.pilfer_one.ensures.changes place))
