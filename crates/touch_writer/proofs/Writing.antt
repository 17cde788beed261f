-- What a writer keeps from packet to packet.
use Rattle.std.specs.Prelude.{◌≡◌, ℕ, zero, suc, ◌+◌, ◌-◌, ◌<◌, ◌≤◌, Bool, true, false, ◌||◌, nat_eq, List, [], ◌∷◌, ◌++◌, length, take, replicate, if◌then◌else◌}
use Rattle.std.proofs.Common.{sym, ◌∙◌, ap, arith, refl, subst}
use Rattle.std.proofs.lemmas.List.{take-replicate}
use Rattle.raw_events.specs.declared.event.RawEvent.{RawEvent}
use Rattle.touch_writer.specs.declared.place.Place.{Place}
use Rattle.touch_writer.specs.declared.want.Want.{Want}
use Rattle.touch_writer.specs.Places.{vacant, news, IsRising}
use Rattle.touch_writer.specs.Packet.{changes, is_empty, last_slot, packet}
use Rattle.touch_writer.specs.Choice.{placed}
use Rattle.touch_writer.specs.Search.{best, chosen, fewest}
use Rattle.touch_writer.specs.State.{State, HoldOnce, IsWriter, IsBestChoice, packet_of, places_after, after}
use Rattle.touch_writer.proofs.Ids.{room}
use Rattle.touch_writer.proofs.Optimal.{total, best_total, best_choice, fewest_least, best_least, packet_length}
use Rattle.touch_writer.proofs.Placed.{placed_length}
use Rattle.touch_writer.proofs.Holding.{placed_once, news_fresh}

vacant_hold : (n : ℕ) → HoldOnce (replicate n vacant)
vacant_hold zero = tt
vacant_hold (suc n) = (tt, vacant_hold n)

pub fresh_writer : (slots : ℕ) → 1 ≤ slots → slots ≤ 16 → IsWriter (replicate 16 vacant) slots 0 0
fresh_writer slots some most = record {
  some = some;
  most = most;
  whole = refl;
  inside = omega (arith, some);
  counted = omega arith;
  once = subst (λ (ps : List Place). HoldOnce ps) (sym (take-replicate slots 16 vacant most)) (vacant_hold slots);
}

either_inside : (b : Bool) (now s n : ℕ) → now < n → s < n → (if b then now else s) < n
either_inside true now s n a b = a
either_inside false now s n a b = b

-- the current slot is one of the device's
pub last_inside : (now current s : ℕ) (ps qs : List Place) (n : ℕ) → now < n → s + length ps ≤ n → last_slot now current s ps qs < n
last_inside now current s [] qs n lt le = lt
last_inside now current s (p ∷ ps) [] n lt le = lt
last_inside now current s (p ∷ ps) (q ∷ qs) n lt le =
    last_inside (if nat_eq s current || is_empty (changes p q) then now else s) current (s + 1) ps qs n
    (either_inside (nat_eq s current || is_empty (changes p q)) now s n lt (omega (arith, le))) (omega (arith, le))

-- ---- the best choice

packet_size : (s : State) (moment : ℕ) (want : List Want) (cs : List Bool) → s.current < length s.places
    → length (packet_of s moment want cs) ≡ total s.current 0 s.places (places_after s want cs) + 1
packet_size s moment want cs inside =
    packet_length s.device moment s.current s.places (places_after s want cs) inside (placed_length want s.places cs (news s.places want) s.used)

pub best_is_best : (s : State) (moment : ℕ) (want : List Want) → HoldOnce s.places → length want ≤ length s.places → s.current < length s.places
    → IsBestChoice s moment want (best want s.current 0 s.places (news s.places want) s.used)
best_is_best s moment want once fits inside =
    let ns : List Want = news s.places want in
    let found : List Bool = best want s.current 0 s.places ns s.used in
    let size : length (packet_of s moment want found) ≡ fewest want s.current 0 s.places ns s.used + 1
    = packet_size s moment want found inside ∙ ap (λ n. n + 1) (best_total want s.current 0 s.places ns s.used) in
    record {
      is = best_choice want s.current 0 s.places ns s.used (omega (arith, room want s.places once, fits));
      fewest = λ other h.
          omega (arith, size, packet_size s moment want other inside, fewest_least want s.current 0 s.places ns s.used other h);
      least = λ other h same.
          best_least want s.current 0 s.places ns s.used other h (omega (arith, same, size, packet_size s moment want other inside));
    }

-- the slots after a choice hold each id once
pub once_after : (s : State) (want : List Want) (cs : List Bool) → HoldOnce s.places → IsRising want → HoldOnce (places_after s want cs)
once_after s want cs once rising = placed_once want s.places cs (news s.places want) s.used once (news_fresh s.places want rising)

-- the choice that is found
abbrev pub found : State → List Want → List Bool
found s want = best want s.current 0 s.places (news s.places want) s.used

-- what the table's choice leaves is what the found one does
pub shall_be : (s : State) (want ns : List Want) (set : ℕ) (shall : List Place) → ns ≡ news s.places want
    → chosen set 0 s.places ≡ best want s.current 0 s.places ns s.used → shall ≡ placed want s.places (chosen set 0 s.places) ns s.used
    → shall ≡ places_after s want (found s want)
shall_be s want ns set shall hn hc hs =
    hs ∙ ap (λ cs. placed want s.places cs ns s.used) hc ∙ ap (λ xs. placed want s.places (best want s.current 0 s.places xs s.used) xs s.used) hn

-- what is known once a packet is written
pub record IsWritten (s : State) (want : List Want) (rows : List Place) (slots last count : ℕ) : Type 0 where
  pub once : HoldOnce s.places
  pub rising : IsRising want
  pub fits : length want ≤ length s.places
  pub current : s.current < length s.places
  pub slots_are : length s.places ≡ slots
  pub rows_are : take (length s.places) rows ≡ places_after s want (found s want)
  pub last_is : last ≡ last_slot s.current s.current 0 s.places (take (length s.places) rows)
  pub count_is : count ≡ length (news s.places want)

pub last_below : (s : State) (want : List Want) (rows : List Place) (slots last count : ℕ) → IsWritten s want rows slots last count → last < slots
last_below s want rows slots last count h =
    omega (arith, h.last_is, h.slots_are, last_inside s.current s.current 0 s.places (take (length s.places) rows) (length s.places) h.current (omega arith))

rows_taken : (s : State) (want : List Want) (rows : List Place) (slots last count : ℕ) → IsWritten s want rows slots last count → take slots rows ≡ places_after s want (found s want)
rows_taken s want rows slots last count h = ap (λ n. take n rows) (sym h.slots_are) ∙ h.rows_are

pub still_writer : (s : State) (want : List Want) (rows : List Place) (slots last count : ℕ) → IsWritten s want rows slots last count → 1 ≤ slots → slots ≤ 16 → length rows ≡ 16
    → count ≤ 2147483647 - s.used → s.used ≤ 2147483647 → IsWriter rows slots last (s.used + count)
still_writer s want rows slots last count h some most whole few used = record {
  some = some;
  most = most;
  whole = whole;
  inside = last_below s want rows slots last count h;
  counted = omega (arith, few, used);
  once = subst (λ (ps : List Place). HoldOnce ps) (sym (rows_taken s want rows slots last count h)) (once_after s want (found s want) h.once h.rising);
}

abbrev pub state_of : ℕ → ℕ → List Place → ℕ → State
state_of device current places used = record { device = device; current = current; places = places; used = used }

after_is : (s : State) (want : List Want) (rows : List Place) (slots last count : ℕ) → IsWritten s want rows slots last count
    → state_of s.device last (take slots rows) (s.used + count) ≡ after s want (found s want)
after_is s want rows slots last count h =
    let ps : List Place = places_after s want (found s want) in
    ap (λ n. state_of s.device n (take slots rows) (s.used + count)) (h.last_is ∙ ap (λ qs. last_slot s.current s.current 0 s.places qs) h.rows_are)
    ∙ ap (λ qs. state_of s.device (last_slot s.current s.current 0 s.places ps) qs (s.used + count)) (rows_taken s want rows slots last count h)
    ∙ ap (λ n. state_of s.device (last_slot s.current s.current 0 s.places ps) ps (s.used + n)) h.count_is

-- the packet of the best choice was written
abbrev pub Writes : State → ℕ → List Want → List RawEvent → List RawEvent → State → Type 0
Writes s moment want before now next =
    (choice : List Bool) × IsBestChoice s moment want choice × (now ≡ before ++ packet_of s moment want choice) × (next ≡ after s want choice)

pub writes : (s : State) (moment : ℕ) (want : List Want) (rows : List Place) (slots last count : ℕ) (before said now : List RawEvent)
    → IsWritten s want rows slots last count → now ≡ before ++ said
    → said ≡ packet s.device moment s.current s.places (take (length s.places) rows)
    → Writes s moment want before now (state_of s.device last (take slots rows) (s.used + count))
writes s moment want rows slots last count before said now h appended is = (
  found s want,
  best_is_best s moment want h.once h.fits h.current,
  appended ∙ ap (λ es. before ++ es) (is ∙ ap (λ ps. packet s.device moment s.current s.places ps) h.rows_are),
  after_is s want rows slots last count h,
)
