use Rattle.std.proofs.Common.{◌≡◌, ◌++◌, drop}
use Rattle.batch_text.specs.Lines.{item_lines}
use Rattle.batch_text.proofs.item.add_items.Given as goal

-- the text so far, and then the items that are left, are all
abbrev pub invariant-loop-item : goal.invariant-loop-item
invariant-loop-item l = l.text.items ++ item_lines (drop l.item-index l.items) ≡ l.initial.text.items ++ item_lines l.items
