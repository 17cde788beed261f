use Rattle.route_split.specs.declared.mark.Mark.TheVariants.{Pilfer}
use Rattle.route_split.proofs.Arms.{by_equal, by_pilfer}
use Rattle.route_split.proofs.marking.change_by.Goals as goal

pub returns-in-Pilfer-clause-changes : goal.returns-in-Pilfer-clause-changes
returns-in-Pilfer-clause-changes c =
    by_equal c.args.states.now c.pilfer_of.new.states c.args.mark.now (Pilfer c.in-Pilfer.device c.in-Pilfer.window) c.args.place c.in-Pilfer.is
    (by_pilfer c.args.states.now c.pilfer_of.new.states c.in-Pilfer.device c.in-Pilfer.window c.args.place (c.pilfer_of.ensures.changes c.args.place))
