use Rattle.std.proofs.Common.{◌++◌, map, ap, ap₂, ◌∙◌}
use Rattle.why_text.specs.Lines.{removed_word}
use Rattle.why_text.specs.Lost.{items_word, key_item}
use Rattle.why_text.specs.Text.{line}
use Rattle.why_lines.proofs.AllLost.{all_lost}
use Rattle.why_lines.proofs.Growing.{same_after}
use Rattle.why_lines.proofs.losing.add_removed.Goals as goal

pub returns : goal.returns
returns c es x st loses =
    same_after c.removed.result c.removed.new.text.items _ _ c.removed.ensures
    (ap (λ items. c.args.text.now.items ++ line c.args.clock (removed_word c.args.channel (items_word items)))
    (ap₂ (λ is ks. is ++ map key_item ks) (c.ids_of-ids.ensures es st) (c.deref.ensures.value ∙ c.in_ok-keys.ensures es st) ∙ all_lost x es c.args.channel loses))
