use Rattle.std.proofs.Common.{◌≡◌, ap, ◌∙◌, arith}
use Rattle.why_lines.specs.Growing.{with_lines}
use Rattle.why_lines.proofs.Growing.{no_line}
use Rattle.why_lines.proofs.Held.{all_lines, line_more, lines_to}
use Rattle.why_lines.proofs.snapshots.add_all_lost.Goals as goal

pub loop-place-init : goal.loop-place-init
loop-place-init c es x st hold quiet = no_line c.args.clock c.args.text.now.items

pub loop-place-preserved : goal.loop-place-preserved
loop-place-preserved c es x st hold quiet =
    line_more c.args.clock x es c.loop-place.place c.args.text.now.items c.loop-place.text.items c.add_lost.new.text.items
    (c.in_ok-add_lost.ensures es x st hold quiet)
    (c.loop-place.invariant es x st hold quiet)

pub returns : goal.returns
returns c es x st hold quiet =
    let t = c.args.clock in
    let text = c.args.text.now.items in
    let end : c.loop-place.place ≡ 64 = omega (arith, c.loop-place-test.false, c.loop-place.auto.place-end) in
    c.loop-place.invariant es x st hold quiet
    ∙ ap (λ n. with_lines t (lines_to x es n) text) end
    ∙ ap (λ ls. with_lines t ls text) (all_lines x es)
