-- Without bytes there is no line.
use Rattle.std.proofs.Common.{refl}
use Rattle.raw_events.specs.Line.{known}
use Rattle.recording_counts.proofs.line_tally.LineTally.new.Goals as goal

pub returns : goal.returns
returns c = record { devices_are = refl; begun_is = c.new.ensures.items; lines_stand = c.new-2.ensures (known c.args.paths.items) }
