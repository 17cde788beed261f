use Rattle.std.proofs.Common.{ap, ◌∙◌}
use Rattle.route_plain.specs.Slipping.{the_one}
use Rattle.route_plain.proofs.Slipped.{the_one-found}
use Rattle.route_plain.proofs.slip.only_holder.Goals as goal

pub returns : goal.returns
returns c = c.the_one.ensures ∙ ap the_one c.found_holders.ensures ∙ the_one-found _
