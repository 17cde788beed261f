use Rattle.std.proofs.Common.{◌≡◌, ◌&&◌, ap, ◌∙◌, arith, rules}
use Rattle.std.proofs.lemmas.Grind.{common_steps}
use Rattle.window_snapshot.specs.Mask.{is_channel, mask_has}
use Rattle.why_lines.specs.Causes.{blocked_by}
use Rattle.why_lines.proofs.blocking.blockers.Goals as goal

pub returns : goal.returns
returns c w number =
    let is : mask_has c.blockers.result w ≡ (is_channel w && blocked_by c.args.blocked.now c.args.channel w) =
    first_of (search rules, grind (arith, common_steps)) in
    is ∙ ap (λ b. b && blocked_by c.args.blocked.now c.args.channel w) number
