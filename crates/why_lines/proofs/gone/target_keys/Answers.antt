use Rattle.std.proofs.Common.{sym, ap, ◌∙◌}
use Rattle.why_lines.specs.Gone.{target_keys}
use Rattle.why_lines.proofs.Growing.{if_then}
use Rattle.why_lines.proofs.gone.target_keys.Goals as goal

pub returns-in-Some : goal.returns-in-Some
returns-in-Some c es st = if_then c.keys_held.result _ _ (c.keys_held.ensures es st) (λ v e. e ∙ ap (target_keys es) (sym c.in-Some.is))
