use Rattle.std.proofs.Common.{◌≡◌, ℕ, List, codes, decimal, length, ◌++◌, ap, ◌∙◌}
use Rattle.text_lines.specs.Written.{labeled}
use Rattle.batch_text.specs.Lines.{batch_line, first_seq, last_seq}
use Rattle.batch_text.proofs.Writing.{batch_parts, last_written}
use Rattle.batch_text.proofs.item.add_batch.Goals as goal

pub returns : goal.returns
unfolding labeled
returns c =
    let b = c.args.batch.now in
    let here = c.samples-samples.ensures.value in
    let first : c.first_seq.result ≡ first_seq b.samples = c.first_seq.ensures ∙ ap first_seq here in
    let last : c.last_seq.result ≡ last_seq b.samples = c.last_seq.ensures ∙ ap last_seq here in
    let device : c.from.result ≡ b.device = cc in
    let start = c.args.text.now.items in
    let p = c.add_labeled.new.text.items in
    let q = c.add_labeled-2.new.text.items in
    let r = c.add_labeled-3.new.text.items in
    let s = c.add_labeled-4.new.text.items in
    last_written c.add_word.result c.add_word.new.text.items s (codes "\n") (start ++ batch_line b)
    (batch_parts b start p q r s
    (c.in_ok-add_labeled.ensures ∙ ap (λ n. start ++ (codes "batch " ++ decimal n)) first)
    (c.in_ok-add_labeled-2.ensures ∙ ap (λ n. p ++ (codes "-" ++ decimal n)) last)
    (c.in_ok-add_labeled-3.ensures ∙ ap (λ n. q ++ (codes " " ++ decimal n)) device)
    (c.in_ok-add_labeled-4.ensures ∙ ap (λ ss. r ++ (codes " " ++ decimal (length ss))) here))
    c.add_word.ensures
