-- Two points that agree, or differ.
use Rattle.std.proofs.Common.{sym, ◌∙◌, ap}
use Rattle.compare_text.specs.Pairing.{points_say}
use Rattle.compare_text.proofs.Measures.{pair_agrees, pair_differs}
use Rattle.compare_text.proofs.compare.compare_pair.Goals as goal

pub returns-in-Some-clause-err : goal.returns-in-Some-clause-err
returns-in-Some-clause-err c = λ ws gs.
    pair_differs c.args.tolerance.us c.args.tolerance.pixels c.args.before (c.args.want, c.args.wanted.now) (c.args.got, c.args.came.now) ws gs c.in-Some.what
    (sym c.difference_of.ensures ∙ c.in-Some.is)

pub returns-in-None-clause-ok : goal.returns-in-None-clause-ok
returns-in-None-clause-ok c = λ ws gs.
    pair_agrees c.args.tolerance.us c.args.tolerance.pixels c.args.before (c.args.want, c.args.wanted.now) (c.args.got, c.args.came.now) ws gs
    (sym c.difference_of.ensures ∙ c.in-None.is)
    ∙ ap (λ m. points_say c.args.tolerance.us c.args.tolerance.pixels m ws gs) (sym c.with_pair.ensures)
