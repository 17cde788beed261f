use Rattle.std.proofs.Common.{◌++◌, ap, ◌∙◌}
use Rattle.std.specs.Prelude.{codes}
use Rattle.std.specs.Fmt.{decimal}
use Rattle.text_lines.specs.Written.{labeled}
use Rattle.inspect_text.specs.Hints.{scan_words}
use Rattle.inspect_text.proofs.Growing.{grown}
use Rattle.inspect_text.proofs.Scans.{scan_first}
use Rattle.inspect_text.proofs.hints.add_scan.Goals as goal

pub returns-in_ok-add_front : goal.returns-in_ok-add_front
unfolding labeled
returns-in_ok-add_front c =
    let text = c.args.text.now.items in
    let words = codes "still down " ++ decimal c.from.result in
    grown c.add_labeled.result c.add_labeled.new.text.items c.add_front.new.text.items words
    (text ++ scan_words c.args.device c.args.is_first c.args.scan)
    c.add_labeled.ensures
    (ap (λ xs. xs ++ words) c.in_ok-add_front.ensures
    ∙ scan_first text c.args.device c.args.is_first c.args.scan c.from.result c.if-is_first.true c.from.ensures)
