use Rattle.std.proofs.Common.{◌∙◌, ◌&&◌, not}
use Rattle.routing_rules.specs.Pairs.{has}
use Rattle.routing_rules.specs.Taking.{takes}
use Rattle.route_plain.specs.Holds.{pairs_of}
use Rattle.route_plain.specs.Loss.{taking_of}
use Rattle.route_plain.proofs.IdSets.{ids_are, sets_are}
use Rattle.route_plain.proofs.Left.{held_after}
use Rattle.route_plain.proofs.said.held_around.Goals as goal

pub returns-clause-before : goal.returns-clause-before
returns-clause-before c =
    sets_are c.ids_with-before.result _ (rw c.empty.ensures at c.ids_with-before.ensures) ∙ ids_are c.args.seen.now.holds.now c.args.window c.args.device

pub returns-clause-later : goal.returns-clause-later
returns-clause-later c =
    sets_are c.ids_with.result _ (rw c.deref.ensures.value at c.ids_with.ensures)
    ∙ held_after c.args.change.now.gained.items c.ids_kept-kept.result c.args.window c.args.device
    (λ i. has (pairs_of c.args.seen.now.holds.now) c.args.window c.args.device i && not (takes (taking_of c.args.seen.now.snapshot.now c.args.change.now.loss) c.args.window c.args.device i))
    c.ids_kept-kept.ensures
