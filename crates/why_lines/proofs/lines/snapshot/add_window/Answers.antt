use Rattle.std.proofs.Common.{◌++◌, append_assoc}
use Rattle.std.specs.Prelude.{codes}
use Rattle.std.specs.Fmt.{signed_decimal}
use Rattle.text_lines.specs.Written.{labeled}
use Rattle.why_text.specs.Lines.{window_words}
use Rattle.why_lines.proofs.Oks.{grown}
use Rattle.why_lines.proofs.lines.snapshot.add_window.Goals as goal

pub returns : goal.returns
unfolding labeled
returns c =
    let f = c.args.window.now.frame in
    grown c.add_frame.result c.add_frame.new.text.items c.add_word-2.new.text.items
    (signed_decimal f.left ++ codes "," ++ signed_decimal f.top ++ codes "," ++ signed_decimal f.right ++ codes "," ++ signed_decimal f.bottom)
    (c.args.text.now.items ++ window_words c.args.window.now)
    c.add_frame.ensures
    (simp (
      c.in_ok-add_word-2.ensures,
      c.in_ok-add_labeled.ensures,
      c.in_ok-add_window_word.ensures,
      c.in_ok-add_word.ensures,
      c.from.ensures,
      c.get.ensures.value,
      append_assoc,
    ))
