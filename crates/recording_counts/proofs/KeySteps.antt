-- The keys of a device, one event more.
use Rattle.std.specs.Prelude.{◌≡◌, ℕ, true, false, List, ◌∷◌}
use Rattle.std.proofs.Common.{refl}
use Rattle.raw_events.specs.declared.event.RawEvent.{RawEvent}
use Rattle.raw_events.specs.Packets.{is_drop, is_void}
use Rattle.key_mapper.specs.Key.{is_down}
use Rattle.device_reader.specs.Packets.{is_key, key_event, key_events, since_drop}
use Rattle.recording_counts.specs.KeyTally.{is_down_at}

-- the event of a key, which is neither void nor a drop
pub key_step : (past : List RawEvent) (e : RawEvent) (scan : ℕ) → is_void past ≡ false → is_drop e ≡ false → is_key e ≡ true
    → is_down scan (key_event e ∷ key_events (since_drop past)) ≡ is_down_at (e ∷ past) scan
key_step past e scan v d k = rw (v, d, k) refl
