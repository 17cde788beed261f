use Rattle.route_plain.specs.Loss.{taking_of}
use Rattle.route_plain.proofs.Left.{kept_all, kept_left}
use Rattle.route_plain.proofs.said.ids_kept.Goals as goal

pub returns-in-None : goal.returns-in-None
returns-in-None c = λ i. rw (c.in-None.is, c.requires) (kept_all c.args.seen.now.holds.now c.args.window c.args.device i)

pub returns-in_default : goal.returns-in_default
returns-in_default c =
    λ i. rw (c.ids_left.ensures, c.windows.ensures.windows, c.empty.ensures)
    (kept_left (taking_of c.args.seen.now.snapshot.now c.args.loss.now) c.args.seen.now.holds.now c.args.window c.args.device i)
