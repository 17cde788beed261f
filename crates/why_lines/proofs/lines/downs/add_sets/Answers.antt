use Rattle.std.proofs.Common.{◌++◌, append_assoc}
use Rattle.std.specs.Prelude.{codes}
use Rattle.window_snapshot.specs.Mask.{mask_has}
use Rattle.why_text.specs.Words.{windows_word}
use Rattle.why_lines.proofs.Oks.{grown}
use Rattle.why_lines.proofs.lines.downs.add_sets.Goals as goal

pub returns : goal.returns
returns c =
    let k = c.args.causes.now in
    grown c.add_named-5.result c.add_named-5.new.text.items c.add_named-4.new.text.items (codes " outside " ++ windows_word (mask_has k.outside))
    (c.args.text.now.items
    ++ (codes " spies " ++ windows_word (mask_has k.spies) ++ codes " pilfering " ++ windows_word (mask_has k.pilfering) ++ codes " given "
    ++ windows_word (mask_has k.given) ++ codes " mute " ++ windows_word (mask_has k.mute) ++ codes " outside " ++ windows_word (mask_has k.outside)))
    c.add_named-5.ensures
    (simp (
      c.in_ok-add_named-4.ensures,
      c.in_ok-add_named-3.ensures,
      c.in_ok-add_named-2.ensures,
      c.in_ok-add_named.ensures,
      append_assoc,
    ))
