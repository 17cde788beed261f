use Rattle.std.proofs.Common.{◌++◌, sym, ap, ◌∙◌}
use Rattle.dispatch_history.specs.Step.{scene}
use Rattle.why_text.specs.Lines.{pilfer_words}
use Rattle.why_text.specs.Text.{line}
use Rattle.why_lines.specs.Owners.{answered}
use Rattle.why_lines.proofs.Growing.{same_after}
use Rattle.why_lines.proofs.Pilfering.{refused_sent}
use Rattle.why_lines.proofs.owners.add_pilfer.Goals as goal

pub returns-in-Some : goal.returns-in-Some
returns-in-Some c es st =
    let s = scene c.args.dispatcher.now.displays es in
    same_after c.pilfer_refused.result c.pilfer_refused.new.text.items _ _ c.pilfer_refused.ensures
    (ap (λ words. c.args.text.now.items ++ line c.args.clock words)
    (refused_sent c.in-Some.refused s c.args.channel c.args.device
    ∙ ap (λ r. pilfer_words r s c.args.channel c.args.device) (ap answered (sym c.in-Some.is) ∙ c.refusal.ensures.value es st)))

pub returns-in-None : goal.returns-in-None
returns-in-None c es st =
    let s = scene c.args.dispatcher.now.displays es in
    same_after c.add_done.result c.add_done.new.text.items _ _ (c.add_done.ensures es st)
    (ap (λ r. c.args.text.now.items ++ line c.args.clock (pilfer_words r s c.args.channel c.args.device))
    (ap answered (sym c.in-None.is) ∙ c.refusal.ensures.value es st))
