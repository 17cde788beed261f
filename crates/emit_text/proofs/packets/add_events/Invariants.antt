use Rattle.std.proofs.Common.{◌≡◌, ◌++◌, drop}
use Rattle.touch_writer_cooks.specs.Reading.{lines}
use Rattle.emit_text.specs.Packets.{path}
use Rattle.emit_text.proofs.packets.add_events.Given as goal

-- the text so far, and then the lines of the events that are left, are all
abbrev pub invariant-loop-event : goal.invariant-loop-event
invariant-loop-event l = l.text.items ++ lines path (drop l.event-index l.events) ≡ l.initial.text.items ++ lines path l.events
