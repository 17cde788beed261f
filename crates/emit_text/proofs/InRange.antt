-- The events of a packet have their fields in range.
use Rattle.std.proofs.Common.{ℕ, zero, suc, ◌+◌, ◌<◌, ◌≤◌, nat_eq, Bool, true, false, if◌then◌else◌, ℤ, pos, negsuc, List, [], ◌∷◌, ◌++◌, length, map, replicate, Option, Some, None, refl, arith}
use Rattle.std.specs.Int.{w32}
use Rattle.std.specs.Int.RustNames.{FitsSigned}
use Rattle.std.specs.Ordering.{int_eq}
use Rattle.raw_events.specs.declared.event.RawEvent.{RawEvent}
use Rattle.touch_writer.specs.declared.place.Place.{Place}
use Rattle.touch_writer.specs.declared.place.Touch.{Touch}
use Rattle.touch_writer.specs.declared.want.Want.{Want}
use Rattle.touch_writer.specs.Choice.{placed, remains, stays}
use Rattle.touch_writer.specs.Packet.{abs, changes, in_slot, others, packet, report, said}
use Rattle.touch_writer.specs.Places.{is_held, kept, news, place_at, tracking, vacant, wanted, wanted_again}
use Rattle.touch_writer_cooks.specs.Reading.{AreEventsOf}
use Rattle.emit_text.specs.Packets.{path}
use Rattle.emit_text.proofs.Spelled.{AreInRange, IsInRange}

-- ---- what slots hold

pub record IsFit (p : Place) : Type 0 where
  pub x : FitsSigned w32 p.x
  pub y : FitsSigned w32 p.y
  pub tracking : FitsSigned w32 (tracking p)

abbrev pub AreFit : List Place → Type 0
AreFit [] = Unit {0}
AreFit (p ∷ ps) = IsFit p × AreFit ps

abbrev Found : Option Want → Type 0
Found None = Unit {0}
Found (Some w) = IsInRange w

found_or : (w : Want) (o : Option Want) (b : Bool) → IsInRange w → Found o → Found (if b then Some w else o)
found_or w o true h rest = h
found_or w o false h rest = rest

wanted_found : (i : ℕ) (want : List Want) → AreInRange want → Found (wanted i want)
wanted_found i [] h = tt
wanted_found i (w ∷ ws) h = found_or w (wanted i ws) (nat_eq w.id i) h.0 (wanted_found i ws h.1)

again_found : (o : Option Touch) (want : List Want) → AreInRange want → Found (wanted_again o want)
again_found None want h = tt
again_found (Some t) want h = wanted_found t.id want h

minus_one : FitsSigned w32 (negsuc 0)
minus_one = record { sfits = omega arith }

natural : (n : ℕ) → n < 2147483648 → FitsSigned w32 (pos n)
natural n lt = record { sfits = omega (arith, lt) }

stays_fit : (p : Place) (o : Option Want) → IsFit p → Found o → IsFit (stays p o)
stays_fit p None h f = record { x = h.x; y = h.y; tracking = minus_one }
stays_fit p (Some w) h f = record { x = f.x; y = f.y; tracking = h.tracking }

remains_fit : (want : List Want) (p : Place) → AreInRange want → IsFit p → IsFit (remains want p)
remains_fit want p h f = stays_fit p (kept want p) f (again_found p.holds want h)

placed_fit : (want : List Want) (ps : List Place) (cs : List Bool) (ns : List Want) (next : ℕ) → AreInRange want → AreInRange ns → AreFit ps
    → next + length ns ≤ 2147483647 → AreFit (placed want ps cs ns next)
placed_fit want [] cs ns next w n f few = tt
placed_fit want (p ∷ ps) [] ns next w n f few = (remains_fit want p w f.0, placed_fit want ps [] ns next w n f.1 few)
placed_fit want (p ∷ ps) (false ∷ cs) ns next w n f few = (remains_fit want p w f.0, placed_fit want ps cs ns next w n f.1 few)
placed_fit want (p ∷ ps) (true ∷ cs) [] next w n f few = (remains_fit want p w f.0, placed_fit want ps cs [] next w n f.1 few)
placed_fit want (p ∷ ps) (true ∷ cs) (m ∷ ns) next w n f few =
    (record { x = n.0.x; y = n.0.y; tracking = natural next (omega (arith, few)) }, placed_fit want ps cs ns (next + 1) w n.1 f.1 (omega (arith, few)))

one_new : (ps : List Place) (w : Want) (ws : List Want) (b : Bool) → IsInRange w → AreInRange (news ps ws) → AreInRange (if b then news ps ws else w ∷ news ps ws)
one_new ps w ws true h rest = rest
one_new ps w ws false h rest = (h, rest)

pub news_in_range : (ps : List Place) (ws : List Want) → AreInRange ws → AreInRange (news ps ws)
news_in_range ps [] h = tt
news_in_range ps (w ∷ ws) h = one_new ps w ws (is_held w.id ps) h.0 (news_in_range ps ws h.1)

pub all_fit : (want : List Want) (ps : List Place) (cs : List Bool) (next : ℕ) → AreInRange want → AreFit ps → next + length (news ps want) ≤ 2147483647
    → AreFit (placed want ps cs (news ps want) next)
all_fit want ps cs next w f few = placed_fit want ps cs (news ps want) next w (news_in_range ps want w) f few

pub vacant_fit : (n : ℕ) → AreFit (replicate n vacant)
vacant_fit zero = tt
vacant_fit (suc n) = (record { x = natural 0 (omega arith); y = natural 0 (omega arith); tracking = minus_one }, vacant_fit n)

-- ---- what a packet says

record IsSaid (change : ℕ × ℤ) : Type 0 where
  code : change.0 < 65536
  value : FitsSigned w32 change.1

abbrev AreSaid : List (ℕ × ℤ) → Type 0
AreSaid [] = Unit {0}
AreSaid (c ∷ cs) = IsSaid c × AreSaid cs

both_said : (cs ds : List (ℕ × ℤ)) → AreSaid cs → AreSaid ds → AreSaid (cs ++ ds)
both_said [] ds c d = d
both_said (x ∷ cs) ds c d = (c.0, both_said cs ds c.1 d)

said_or : (code : ℕ) (new : ℤ) (b : Bool) → code < 65536 → FitsSigned w32 new → AreSaid (if b then [] else (code, new) ∷ [])
said_or code new true lt h = tt
said_or code new false lt h = (record { code = lt; value = h }, tt)

changes_said : (p q : Place) → IsFit q → AreSaid (changes p q)
changes_said p q h =
    let tracking_said : AreSaid (said 57 (tracking p) (tracking q)) = said_or 57 (tracking q) (int_eq (tracking p) (tracking q)) (omega arith) h.tracking in
    let x_said : AreSaid (said 53 p.x q.x) = said_or 53 q.x (int_eq p.x q.x) (omega arith) h.x in
    let y_said : AreSaid (said 54 p.y q.y) = said_or 54 q.y (int_eq p.y q.y) (omega arith) h.y in
    both_said (said 57 (tracking p) (tracking q) ++ said 53 p.x q.x) (said 54 p.y q.y)
    (both_said (said 57 (tracking p) (tracking q)) (said 53 p.x q.x) tracking_said x_said) y_said

in_slot_said : (s : ℕ) (cs : List (ℕ × ℤ)) → s < 2147483648 → AreSaid cs → AreSaid (in_slot s cs)
in_slot_said s [] lt h = tt
in_slot_said s (c ∷ cs) lt h = (record { code = omega arith; value = natural s lt }, h)

unless_current : (s : ℕ) (cs : List (ℕ × ℤ)) (b : Bool) → s < 2147483648 → AreSaid cs → AreSaid (if b then [] else in_slot s cs)
unless_current s cs true lt h = tt
unless_current s cs false lt h = in_slot_said s cs lt h

others_said : (current s : ℕ) (ps qs : List Place) → s + length ps ≤ 2147483648 → AreFit qs → AreSaid (others current s ps qs)
others_said current s [] qs few h = tt
others_said current s (p ∷ ps) [] few h = tt
others_said current s (p ∷ ps) (q ∷ qs) few h =
    both_said (if nat_eq s current then [] else in_slot s (changes p q)) (others current (s + 1) ps qs)
    (unless_current s (changes p q) (nat_eq s current) (omega (arith, few)) (changes_said p q h.0))
    (others_said current (s + 1) ps qs (omega (arith, few)) h.1)

place_fit : (i : ℕ) (ps : List Place) → AreFit ps → IsFit (place_at i ps)
place_fit i [] h = (vacant_fit 1).0
place_fit zero (p ∷ ps) h = h.0
place_fit (suc i) (p ∷ ps) h = place_fit i ps h.1

changes_of_device : (device moment : ℕ) (cs : List (ℕ × ℤ)) → moment < 1000000000000000000 → AreSaid cs
    → AreEventsOf ((path, device) ∷ []) path (map (λ c. abs device moment c) cs ++ report device moment ∷ [])
changes_of_device device moment [] lt h =
    (record { device = refl; moment = lt; kind = omega arith; code = omega arith; value = natural 0 (omega arith) }, tt)
changes_of_device device moment (c ∷ cs) lt h =
    (record { device = refl; moment = lt; kind = omega arith; code = h.0.code; value = h.0.value }, changes_of_device device moment cs lt h.1)

pub packet_of_device : (device moment current : ℕ) (old new : List Place) → moment < 1000000000000000000 → length old ≤ 16 → AreFit new
    → AreEventsOf ((path, device) ∷ []) path (packet device moment current old new)
packet_of_device device moment current old new lt few h =
    changes_of_device device moment (changes (place_at current old) (place_at current new) ++ others current 0 old new) lt
    (both_said (changes (place_at current old) (place_at current new)) (others current 0 old new)
    (changes_said (place_at current old) (place_at current new) (place_fit current new h))
    (others_said current 0 old new (omega (arith, few)) h))

pub events_of_device : (device : ℕ) (es fs : List RawEvent) → AreEventsOf ((path, device) ∷ []) path es → AreEventsOf ((path, device) ∷ []) path fs
    → AreEventsOf ((path, device) ∷ []) path (es ++ fs)
events_of_device device [] fs e f = f
events_of_device device (x ∷ es) fs e f = (e.0, events_of_device device es fs e.1 f)
