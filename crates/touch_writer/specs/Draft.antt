-- What contracts see of a packet that is being written.
use Rattle.std.specs.Prelude.{ℕ, ℤ, List, [], ◌∷◌, ◌++◌, map}
use Rattle.raw_events.specs.declared.event.RawEvent.{RawEvent}
use Rattle.touch_writer.specs.Packet.{abs, report}

-- the device and the moment of a packet, and its events so far
pub record Drafted : Type 0 where
  pub device : ℕ
  pub moment : ℕ
  pub events : List RawEvent

-- some EV_ABS events more
abbrev pub with_changes : Drafted → List (ℕ × ℤ) → Drafted
with_changes d cs = record { device = d.device; moment = d.moment; events = d.events ++ map (λ c. abs d.device d.moment c) cs }

-- the SYN_REPORT after the events
abbrev pub with_report : Drafted → Drafted
with_report d = record { device = d.device; moment = d.moment; events = d.events ++ report d.device d.moment ∷ [] }
