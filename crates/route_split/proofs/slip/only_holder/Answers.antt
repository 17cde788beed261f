use Rattle.std.proofs.Common.{refl, ap, ◌∙◌}
use Rattle.route_split.specs.Seen.{scene_at}
use Rattle.route_split.specs.Slipping.{the_one}
use Rattle.route_split.proofs.Found.{the_one-found, holder_channel}
use Rattle.route_split.proofs.slip.only_holder.Goals as goal

pub returns-clause-value : goal.returns-clause-value
returns-clause-value c = c.the_one.ensures ∙ ap the_one c.found_holders.ensures ∙ the_one-found _

pub returns-clause-channel : goal.returns-clause-channel
returns-clause-channel c =
    holder_channel (scene_at c.args.seen.now) c.args.seen.now.table.now c.args.device c.args.id (λ v. refl) c.the_one.result
    (c.the_one.ensures ∙ ap the_one c.found_holders.ensures ∙ the_one-found _)
