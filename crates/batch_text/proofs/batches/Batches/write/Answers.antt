use Rattle.std.proofs.Common.{◌≡◌, ◌+◌, ◌-◌, ◌^◌, ◌<◌, ◌++◌, length, min, arith, ap, ◌∙◌}
use Rattle.batch_text.specs.Lines.{item_lines}
use Rattle.batch_text.proofs.Writing.{items_written}
use Rattle.batch_text.proofs.batches.Batches.write.Goals as goal

pub returns : goal.returns
returns c = λ calls before w.
    let text = c.add_items.new.text in
    let b = c.args.self.now in
    let bound : length text.items < 2 ^ 64 = omega (arith, text.ok.0, text.ok.1, text.small) in
    let count : c.saturating_add-self.result ≡ min (b.count + length b.given.items) (2 ^ 64 - 1) = omega (arith, c.saturating_add-self.ensures, c.len.ensures) in
    items_written calls before c.args.text.now.items text.items b c.saturating_add-self.result c.clear.new.self w
    (c.in_ok-add_items.ensures ∙ ap (λ is. c.args.text.now.items ++ item_lines is) c.deref.ensures.value)
    bound
    count
    c.clear.ensures.items
