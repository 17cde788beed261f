use Rattle.std.proofs.Common.{◌∙◌}
use Rattle.route_plain.proofs.Holding.{any_of_pair}
use Rattle.route_plain.proofs.hold.holds_pointer.Goals as goal

pub returns : goal.returns
returns c = c.any_is_pointer.ensures ∙ any_of_pair c.args.holds.now c.args.window c.args.device c.args.id
