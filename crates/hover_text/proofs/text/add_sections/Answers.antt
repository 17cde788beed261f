use Rattle.std.proofs.Common.{◌+◌, ◌++◌, map, drop, arith, sym, ap, ◌∙◌}
use Rattle.cursor_core.specs.Told.{stream}
use Rattle.session_plan.specs.View.{channel_view}
use Rattle.hover_text.specs.Text.{sections_from}
use Rattle.hover_text.proofs.Sections.{channel_at, section_more}
use Rattle.hover_text.proofs.text.add_sections.Goals as goal

pub loop-place-preserved : goal.loop-place-preserved
loop-place-preserved c = λ d calls s few.
    let i = c.loop-place.place in
    let ch = c.index-channels-place.result in
    let text = c.loop-place.text.items in
    let at = channel_at c.args.channels.now i ch c.loop-place-test.true c.index-channels-place.is in
    section_more text c.add_section.new.text.items (i + 1) (channel_view ch) (map channel_view (drop (i + 1) c.args.channels.now)) (stream d calls) c.as_str.result.now
    c.told.result.now
    (c.args.text.now.items ++ sections_from 1 (map channel_view c.args.channels.now) (stream d calls))
    c.as_str.ensures.value
    (c.told.ensures d calls s (omega arith) (omega (arith, few, c.loop-place-test.true)))
    c.in_ok-add_section.ensures
    (ap (λ cs. text ++ sections_from (i + 1) cs (stream d calls)) (sym at) ∙ c.loop-place.invariant d calls s few)
