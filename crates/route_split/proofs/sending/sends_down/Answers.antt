use Rattle.std.proofs.Common.{ap, ◌∙◌, subst}
use Rattle.bits32.specs.Set.{is_in}
use Rattle.split_motion.specs.Laws.{if_some}
use Rattle.split_motion.specs.Split.{split_of}
use Rattle.route_split.specs.Sending.{IsSent}
use Rattle.route_split.proofs.sending.sends_down.Goals as goal

pub returns : goal.returns
returns c d last before =
    subst (λ m. IsSent c.one_of.result (if_some m) d last before)
    (c.split.ensures ∙ ap (λ n. split_of n (λ i. is_in i c.args.later)) c.as_down.ensures)
    (c.one_of.ensures d last before)
