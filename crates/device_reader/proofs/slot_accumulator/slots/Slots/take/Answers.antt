-- A SYN_REPORT ends a packet, and other events are written.
use Rattle.std.proofs.Common.{sym, ◌∙◌}
use Rattle.device_reader.proofs.slot_accumulator.slots.Slots.take.Goals as goal

pub returns-then-is_report-clause-state : goal.returns-then-is_report-clause-state
returns-then-is_report-clause-state c = λ past h. c.end_packet.ensures.state past c.args.event (sym c.is_report.ensures ∙ c.if-is_report.true) h
