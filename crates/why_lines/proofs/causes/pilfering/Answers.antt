use Rattle.std.proofs.Common.{sym, ap, ap₂, ◌∙◌, ◌&&◌}
use Rattle.window_snapshot.proofs.Parts.{mask_has-and}
use Rattle.why_lines.proofs.causes.pilfering.Goals as goal

pub returns : goal.returns
returns c s seen w number =
    mask_has-and c.candidates.result c.pilfering.result w
    ∙ ap₂ (λ a b. a && b) (c.candidates.ensures w number) (c.pilfering.ensures w ∙ sym (ap (λ f. f w c.args.device) seen.stands.pilfering_are))
