use Rattle.std.proofs.Common.{◌++◌, ap, sym, ◌∙◌, append-nil, append_assoc, arith}
use Rattle.text_lines.specs.Written.{labeled}
use Rattle.why_text.specs.Lost.{ids_item}
use Rattle.why_text.specs.Words.{joined}
use Rattle.why_lines.specs.Lost.{behind_spaces, ids_in}
use Rattle.why_lines.proofs.Items.{one_item}
use Rattle.why_lines.proofs.Oks.{grown}
use Rattle.why_lines.proofs.Passing.{no_ids, some_ids}
use Rattle.why_lines.proofs.lines.losing.add_ids_of.Goals as goal

pub returns-then-count-eq0 : goal.returns-then-count-eq0
returns-then-count-eq0 c =
    sym (append-nil c.args.text.now.items)
    ∙ ap (λ is. c.args.text.now.items ++ behind_spaces (ids_item c.args.device is)) (sym (no_ids c.args.ids (omega (arith, c.count.ensures, c.if-count-eq0.true))))

pub returns : goal.returns
unfolding labeled
returns c =
    grown c.add_ids.result c.add_ids.new.text.items c.add_word.new.text.items (joined (ids_in c.args.ids))
    (c.args.text.now.items ++ behind_spaces (ids_item c.args.device (ids_in c.args.ids)))
    c.add_ids.ensures
    (simp (
      c.in_ok-add_word.ensures,
      c.in_ok-add_labeled.ensures,
      one_item c.args.device (ids_in c.args.ids) (some_ids c.args.ids (omega (arith, c.count.ensures, c.if-count-eq0.false))),
      append_assoc,
    ))
