use Rattle.std.proofs.Common.{◌++◌, append_assoc}
use Rattle.std.specs.Prelude.{codes}
use Rattle.text_lines.specs.Written.{labeled}
use Rattle.why_text.specs.Lines.{slip_word}
use Rattle.why_text.specs.Text.{line}
use Rattle.why_lines.proofs.Oks.{grown}
use Rattle.why_lines.proofs.lines.motions.slip.Goals as goal

pub returns : goal.returns
unfolding labeled
returns c =
    grown c.add_word.result c.add_word.new.text.items c.add_labeled-2.new.text.items (codes "\n")
    (c.args.text.now.items ++ line c.args.clock (slip_word c.args.device c.args.pointer c.args.from c.args.to))
    c.add_word.ensures
    (simp (
      c.in_ok-add_labeled-2.ensures,
      c.in_ok-add_labeled.ensures,
      c.in_ok-add_pointer.ensures,
      c.in_ok-add_clock.ensures,
      c.from.ensures,
      c.from-2.ensures,
      append_assoc,
    ))
