use Rattle.std.proofs.Common.{◌++◌, map, ap, ap₂, ◌∙◌}
use Rattle.std.specs.Fmt.{decimal}
use Rattle.why_text.specs.Lines.{timeout_word}
use Rattle.why_text.specs.Lost.{items_word, key_item}
use Rattle.why_text.specs.Text.{line}
use Rattle.why_lines.proofs.AllLost.{all_lost}
use Rattle.why_lines.proofs.Growing.{same_after}
use Rattle.why_lines.proofs.ticks.add_timeout.Goals as goal

pub returns : goal.returns
returns c es x st loses =
    same_after c.timeout.result c.timeout.new.text.items _ _ c.timeout.ensures
    (ap (λ items. c.args.text.now.items ++ line c.args.clock (timeout_word c.args.channel (decimal c.args.seq) (items_word items)))
    (ap₂ (λ is ks. is ++ map key_item ks) (c.ids_of-ids.ensures es st) (c.deref.ensures.value ∙ c.in_ok-keys.ensures es st) ∙ all_lost x es c.args.channel loses))
