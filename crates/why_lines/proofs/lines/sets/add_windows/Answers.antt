use Rattle.std.proofs.Common.{◌++◌, ap, sym, ◌∙◌, append_assoc}
use Rattle.std.specs.Prelude.{codes}
use Rattle.window_snapshot.specs.Mask.{mask_has}
use Rattle.why_text.specs.Words.{channels_that, windows_word}
use Rattle.why_lines.specs.Lost.{behind_commas}
use Rattle.why_lines.proofs.Oks.{grown}
use Rattle.why_lines.proofs.Passing.{no_windows, windows_first}
use Rattle.why_lines.proofs.lines.sets.add_windows.Goals as goal

pub returns-then-mask-eq0 : goal.returns-then-mask-eq0
returns-then-mask-eq0 c =
    grown c.add_word.result c.add_word.new.text.items c.args.text.now.items (codes "-") (c.args.text.now.items ++ windows_word (mask_has c.args.mask))
    c.add_word.ensures
    (ap (λ xs. c.args.text.now.items ++ xs) (sym (no_windows c.args.mask c.if-mask-eq0.true)))

pub returns : goal.returns
returns c =
    let rest = behind_commas (channels_that (mask_has c.mask_without.result)) in
    grown c.add_further.result c.add_further.new.text.items c.add_channel.new.text.items rest (c.args.text.now.items ++ windows_word (mask_has c.args.mask))
    c.add_further.ensures
    (ap (λ xs. xs ++ rest) c.in_ok-add_channel.ensures
    ∙ append_assoc c.args.text.now.items _ rest
    ∙ ap (λ xs. c.args.text.now.items ++ xs)
    (sym (windows_first c.args.mask c.mask_without.result c.mask_first-first.result c.mask_first-first.ensures.range.0 c.mask_first-first.ensures.range.1
    c.mask_first-first.ensures.has c.mask_first-first.ensures.first c.mask_without.ensures.channels)))
