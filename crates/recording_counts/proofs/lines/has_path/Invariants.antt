use Rattle.std.proofs.Common.{◌≡◌, map, drop, string_bytes}
use Rattle.raw_events.specs.Line.{device_at}
use Rattle.recording_counts.proofs.lines.has_path.Given as goal

abbrev pub invariant-loop-known : goal.invariant-loop-known
invariant-loop-known l =
    device_at (map (λ d. (string_bytes d.0, d.1)) (drop l.known-index l.devices)) l.path ≡ device_at (map (λ d. (string_bytes d.0, d.1)) l.devices) l.path
