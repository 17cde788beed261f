use Rattle.std.proofs.Common.{sym, ap, ◌∙◌}
use Rattle.window_snapshot.specs.Mask.{mask_has}
use Rattle.routing_rules.specs.Choice.{is_candidate_of}
use Rattle.why_lines.proofs.Masks.{with_chosen}
use Rattle.why_lines.proofs.causes.candidates.Goals as goal

pub returns-in-Some : goal.returns-in-Some
returns-in-Some c w number =
    ap (λ m. mask_has m w) c.mask_with.ensures
    ∙ with_chosen c.args.spies c.in-Some.window w number
    ∙ sym (ap (λ o. is_candidate_of o (mask_has c.args.spies) w) c.in-Some.is)
