use Rattle.std.proofs.Common.{length, ◌==◌, ◌&&◌, ap, ◌∙◌, sym, refl}
use Rattle.why_lines.proofs.Items.{not_both, nothing_lost}
use Rattle.why_lines.proofs.lines.losing.Lost.is_nothing.Goals as goal

pub returns-then-are_empty : goal.returns-then-are_empty
returns-then-are_empty c =
    ap (λ a. a && c.is_empty.result) (sym c.if-are_empty.true)
    ∙ nothing_lost c.args.self.now.ids.now c.args.self.now.keys.now c.are_empty.result c.is_empty.result c.are_empty.ensures c.is_empty.ensures

pub returns-else-are_empty : goal.returns-else-are_empty
returns-else-are_empty c =
    not_both c.are_empty.result (length c.args.self.now.keys.now == 0) c.if-are_empty.false
    ∙ nothing_lost c.args.self.now.ids.now c.args.self.now.keys.now c.are_empty.result (length c.args.self.now.keys.now == 0) c.are_empty.ensures refl
