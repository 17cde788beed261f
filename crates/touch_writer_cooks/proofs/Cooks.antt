-- Cooking gives back what was wanted, packet by packet.
use Rattle.std.specs.Prelude.{◌≡◌, ℕ, suc, zero, ◌+◌, ◌<◌, ◌≤◌, false, ℤ, pos, List, [], ◌∷◌, ◌++◌, length, replicate, reverse, negsuc}
use Rattle.std.proofs.Common.{sym, ◌∙◌, ap, subst, refl, arith}
use Rattle.raw_events.specs.declared.event.RawEvent.{RawEvent}
use Rattle.device_reader.specs.SlotAccumulator.SlotValues.{current}
use Rattle.device_reader.specs.SlotAccumulator.SlotContacts.{is_palm, contacts_at}
use Rattle.device_reader.specs.declared.pointer_ids.named.Named.{Named}
use Rattle.device_reader.specs.PointerIds.PointerIds.{named_after, named, assigned, has_id}
use Rattle.touch_writer.specs.declared.place.Place.{Place}
use Rattle.touch_writer.specs.declared.want.Want.{Want}
use Rattle.touch_writer.specs.Places.{news, vacant}
use Rattle.touch_writer.specs.Packet.{report}
use Rattle.touch_writer.specs.State.{State, packet_of, places_after, after}
use Rattle.touch_writer.proofs.Placed.{placed_length}
use Rattle.touch_writer.proofs.Writing.{last_inside}
use Rattle.std.proofs.lemmas.List.{length-replicate}
use Rattle.touch_writer_cooks.specs.Cooking.{Written, MayWrite, MayWriteAll, CookingLaw, writer_after, events_of, contacts_of}
use Rattle.touch_writer_cooks.proofs.Rows.{say, say_all}
use Rattle.touch_writer_cooks.proofs.Packets.{AreRows, said_in, packet_rows, packet_current, reported, say_palms, no_palms}
use Rattle.touch_writer_cooks.proofs.Tracks.{AreUsed, DifferAll, TrackOnce, placed_used, placed_track}
use Rattle.touch_writer_cooks.proofs.Contacts.{contacts_are}
use Rattle.touch_writer_cooks.proofs.Names.{names_of, names_are, same_held}
use Rattle.touch_writer_cooks.proofs.Least.{new_ids}
use Rattle.touch_writer_cooks.proofs.Found.{assigned_is}

-- a writer and what cooking knows after the same packets
record Agree (slots : ℕ) (s : State) (events : List RawEvent) (names : List Named) : Type 0 where
  long : length s.places ≡ slots
  inside : s.current < slots
  current_is : current events ≡ pos s.current
  rows : AreRows events 0 s.places
  fingers : (t : ℤ) → is_palm slots events t ≡ false
  used : AreUsed s.used s.places
  once : TrackOnce s.places
  names_are : names ≡ names_of s.places

abbrev body : State → Written → List (ℕ × ℤ)
body s w = said_in s.current s.places (places_after s w.want w.choice)

-- the events after one more packet
abbrev with_packet : State → Written → List RawEvent → List RawEvent
with_packet s w events = reverse (packet_of s w.moment w.want w.choice) ++ events

with_packet_is : (s : State) (w : Written) (events : List RawEvent) → with_packet s w events ≡ report s.device w.moment ∷ say s.device w.moment (body s w) events
with_packet_is s w events = say_all s.device w.moment (body s w) (report s.device w.moment) events

rows_after : (slots : ℕ) (s : State) (w : Written) (events : List RawEvent) (names : List Named) → Agree slots s events names
    → AreRows (say s.device w.moment (body s w) events) 0 (places_after s w.want w.choice)
rows_after slots s w events names h =
    let new : List Place = places_after s w.want w.choice in
    packet_rows s.device w.moment s.current s.places new events (omega (arith, h.inside, h.long))
    (sym (placed_length w.want s.places w.choice (news s.places w.want) s.used)) h.current_is h.rows

agree_next : (slots : ℕ) (s : State) (w : Written) (events : List RawEvent) (names : List Named) → Agree slots s events names → MayWrite s w
    → Agree slots (after s w.want w.choice) (report s.device w.moment ∷ say s.device w.moment (body s w) events)
    (named names (contacts_at slots (report s.device w.moment ∷ say s.device w.moment (body s w) events)))
agree_next slots s w events names h may =
    let new : List Place = places_after s w.want w.choice in
    let ns : List Want = news s.places w.want in
    let later : List RawEvent = say s.device w.moment (body s w) events in
    let as_long : length new ≡ length s.places = placed_length w.want s.places w.choice ns s.used in
    let long : length new ≡ slots = as_long ∙ h.long in
    let rows : AreRows later 0 new = rows_after slots s w events names h in
    let all : AreRows (report s.device w.moment ∷ later) 0 new = reported s.device w.moment 0 new later rows in
    let fingers : (t : ℤ) → is_palm slots (report s.device w.moment ∷ later) t ≡ false =
    λ t. no_palms s.device w.moment slots new later t long rows (say_palms s.device w.moment slots (body s w) events t ∙ h.fingers t) in
    let used : AreUsed (s.used + length ns) new = placed_used w.want s.places w.choice ns s.used h.used in
    let once : TrackOnce new = placed_track w.want s.places w.choice ns s.used h.used h.once in
    record {
      long = long;
      inside = last_inside s.current s.current 0 s.places new slots h.inside (omega (arith, h.long));
      current_is = packet_current s.device w.moment s.current s.places new events h.current_is;
      rows = all;
      fingers = fingers;
      used = used;
      once = once;
      names_are =
          ap (λ ns. named ns (contacts_at slots (report s.device w.moment ∷ later))) h.names_are
          ∙ ap (λ cs. named (names_of s.places) cs) (contacts_are (report s.device w.moment ∷ later) slots (s.used + length ns) new long all used once fingers)
          ∙ names_are w.want s.places w.choice ns s.used h.once h.used
          (new_ids s w.want (λ i. has_id i (names_of s.places)) may.rises may.ids may.taken (λ k. same_held k s.places));
    }

vacant_rows : (i n : ℕ) → AreRows [] i (replicate n vacant)
vacant_rows i zero = tt
vacant_rows i (suc n) = (refl, vacant_rows (i + 1) n)

vacant_used : (n : ℕ) → AreUsed 0 (replicate n vacant)
vacant_used zero = tt
vacant_used (suc n) = (tt, vacant_used n)

vacant_differ : (k : ℤ) (n : ℕ) → DifferAll k (replicate n vacant)
vacant_differ k zero = tt
vacant_differ k (suc n) = (tt, vacant_differ k n)

vacant_once : (n : ℕ) → TrackOnce (replicate n vacant)
vacant_once zero = tt
vacant_once (suc n) = (vacant_differ (negsuc 0) n, vacant_once n)

vacant_names : (n : ℕ) → [] ≡ names_of (replicate n vacant)
vacant_names zero = refl
vacant_names (suc n) = vacant_names n

agree : (device slots : ℕ) (past : List Written) → 1 ≤ slots → MayWriteAll device slots past
    → Agree slots (writer_after device slots past) (events_of device slots past) (named_after (contacts_of device slots past))
agree device slots [] some may = record {
  long = length-replicate slots vacant;
  inside = omega (arith, some);
  current_is = refl;
  rows = vacant_rows 0 slots;
  fingers = λ t. refl;
  used = vacant_used slots;
  once = vacant_once slots;
  names_are = vacant_names slots;
}
agree device slots (w ∷ past) some may =
    let s : State = writer_after device slots past in
    let events : List RawEvent = events_of device slots past in
    let names : List Named = named_after (contacts_of device slots past) in
    subst (λ es. Agree slots (after s w.want w.choice) es (named names (contacts_at slots es))) (sym (with_packet_is s w events))
    (agree_next slots s w events names (agree device slots past some may.1) may.0)

pub cooking : CookingLaw
cooking device slots w past some most may =
    let s : State = writer_after device slots past in
    ap (λ ns. assigned ns) (agree device slots (w ∷ past) some may).names_are
    ∙ assigned_is w.want s.places w.choice s.used may.0.rises may.0.ids may.0.choice
