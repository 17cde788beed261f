use Rattle.std.proofs.Common.{List}
use Rattle.raw_events.specs.declared.event.RawEvent.{RawEvent}
use Rattle.device_reader.specs.Cooked.{DevicePlan}
use Rattle.recording_counts.specs.KeyTally.{KeysTallyStandsFor}
use Rattle.inspect_text.proofs.Scans.{Begun}
use Rattle.inspect_text.proofs.hints.add_keys.Given as goal

-- the scan codes so far are written
abbrev pub invariant-loop-scan : goal.invariant-loop-scan
invariant-loop-scan l =
    (plan : DevicePlan) (past : List RawEvent) → KeysTallyStandsFor plan past l.keys → Begun l.device past l.scan l.initial.text.items l.text.items l.is_first
