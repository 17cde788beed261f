use Rattle.std.proofs.Common.{◌≡◌, List, map, take}
use Rattle.raw_events.specs.declared.event.RawEvent.{RawEvent}
use Rattle.device_reader.specs.Cooked.{DevicePlan}
use Rattle.device_table.specs.Table.{StandsAt}
use Rattle.live_input.specs.Fingers.{OthersStay, Takes}
use Rattle.live_input.specs.Strokes.{said}
use Rattle.live_input.proofs.live.Live.take_all.Given as goal

-- the first of them are taken
abbrev pub invariant-loop-stroke : goal.invariant-loop-stroke
invariant-loop-stroke l =
    record {
      takes : (plan : DevicePlan) (past : List RawEvent) → StandsAt plan past l.device l.initial.self.devices
          → Takes plan past (map (said l.device l.now) (take l.stroke-index l.strokes)) l.device l.initial.self l.self;
      others : OthersStay l.device l.initial.self l.self;
      rest : l.self ≡ record l.initial.self { devices = l.self.devices; pending = l.self.pending };
    }
