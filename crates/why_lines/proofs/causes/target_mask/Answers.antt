use Rattle.std.proofs.Common.{◌&&◌, ◌==◌, ap, ◌∙◌}
use Rattle.std.specs.List.{list_any}
use Rattle.routing_rules.specs.Choice.{targets_at}
use Rattle.why_text.proofs.PartLaws.{targets_listed}
use Rattle.why_lines.proofs.causes.target_mask.Goals as goal

pub returns : goal.returns
returns c s seen w number =
    let m = c.args.motion.now in
    let p = c.args.pointer.now in
    c.targets.ensures s seen.stands seen.sees w
    ∙ ap (λ b. b && list_any (λ v. v == w) (targets_at s m.device p.at)) number
    ∙ targets_listed s m p w
