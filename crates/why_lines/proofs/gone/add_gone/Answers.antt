use Rattle.std.proofs.Common.{sym, ◌∙◌}
use Rattle.why_lines.specs.Lost.{items_of}
use Rattle.why_lines.proofs.Losers.{nothing_gone, something_gone}
use Rattle.why_lines.proofs.Growing.{same_after}
use Rattle.why_lines.proofs.gone.add_gone.Goals as goal

pub returns-then-is_nothing : goal.returns-then-is_nothing
returns-then-is_nothing c =
    nothing_gone c.args.clock c.args.window (items_of c.args.lost.now.ids.now c.args.lost.now.keys.now) c.args.text.now.items
    (sym c.is_nothing.ensures ∙ c.if-is_nothing.true)

pub returns-else-is_nothing : goal.returns-else-is_nothing
returns-else-is_nothing c =
    same_after c.gone.result c.gone.new.text.items _ _ c.gone.ensures
    (something_gone c.args.clock c.args.window (items_of c.args.lost.now.ids.now c.args.lost.now.keys.now) c.args.text.now.items
    (sym c.is_nothing.ensures ∙ c.if-is_nothing.false))
