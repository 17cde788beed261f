-- What a drop leaves.
use Rattle.std.specs.Prelude.{◌≡◌, true, false, List, [], ◌∷◌}
use Rattle.std.proofs.Common.{refl}
use Rattle.raw_events.specs.declared.event.RawEvent.{RawEvent}
use Rattle.device_reader.specs.Packets.{since_drop}
use Rattle.raw_events.specs.Packets.{is_drop, is_void}

pub void_after : (past : List RawEvent) (e : RawEvent) → is_void past ≡ false → is_drop e ≡ true → is_void (e ∷ past) ≡ true
void_after past e v d = rw (v, d) refl

pub none_after : (past : List RawEvent) (e : RawEvent) → is_void past ≡ false → is_drop e ≡ true → since_drop (e ∷ past) ≡ []
none_after past e v d = rw (v, d) refl
