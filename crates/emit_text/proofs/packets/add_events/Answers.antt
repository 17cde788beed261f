use Rattle.std.proofs.Common.{◌+◌, ◌++◌, drop, ap, sym, ◌∙◌, append_assoc}
use Rattle.touch_writer.specs.EventText.{event_line}
use Rattle.touch_writer.proofs.Lists.{drop_item}
use Rattle.touch_writer_cooks.specs.Reading.{lines}
use Rattle.emit_text.specs.Packets.{path}
use Rattle.emit_text.proofs.packets.add_events.Goals as goal

pub loop-event-preserved : goal.loop-event-preserved
loop-event-preserved c =
    let events = c.args.events.now in
    let i = c.loop-event.event-index in
    let e = c.event-item.result in
    let text = c.loop-event.text.items in
    ap (λ t. t ++ lines path (drop (i + 1) events)) c.in_ok-event.ensures.ok
    ∙ append_assoc text (event_line path e) (lines path (drop (i + 1) events))
    ∙ ap (λ es. text ++ lines path es) (sym (drop_item events i e c.loop-event-test.true c.event-item.is))
    ∙ c.loop-event.invariant
