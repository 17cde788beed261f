use Rattle.std.proofs.Common.{◌++◌, ap, sym, arith}
use Rattle.std.specs.Prelude.{codes}
use Rattle.why_text.specs.Words.{joined, set_word}
use Rattle.why_lines.specs.Lost.{ids_in}
use Rattle.why_lines.proofs.Oks.{grown}
use Rattle.why_lines.proofs.Passing.{no_ids, set_of_ids, some_ids}
use Rattle.why_lines.proofs.lines.sets.add_id_set.Goals as goal

pub returns-then-count-eq0 : goal.returns-then-count-eq0
returns-then-count-eq0 c =
    grown c.add_word.result c.add_word.new.text.items c.args.text.now.items (codes "-") (c.args.text.now.items ++ set_word (ids_in c.args.ids))
    c.add_word.ensures
    (ap (λ is. c.args.text.now.items ++ set_word is) (sym (no_ids c.args.ids (omega (arith, c.count.ensures, c.if-count-eq0.true)))))

pub returns-else-count-eq0 : goal.returns-else-count-eq0
returns-else-count-eq0 c =
    grown c.add_ids.result c.add_ids.new.text.items c.args.text.now.items (joined (ids_in c.args.ids)) (c.args.text.now.items ++ set_word (ids_in c.args.ids))
    c.add_ids.ensures
    (ap (λ xs. c.args.text.now.items ++ xs)
    (sym (set_of_ids (ids_in c.args.ids) (some_ids c.args.ids (omega (arith, c.count.ensures, c.if-count-eq0.false))))))
