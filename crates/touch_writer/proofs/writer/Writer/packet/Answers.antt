-- The choice of the table is the best one.
use Rattle.std.specs.Prelude.{◌≡◌, ℕ, ◌+◌, ◌<◌, ◌++◌, List, length, take}
use Rattle.std.proofs.Common.{sym, ◌∙◌, ap, arith, subst, length-take-le}
use Rattle.touch_writer.specs.declared.place.Place.{Place}
use Rattle.touch_writer.specs.declared.want.Want.{Want}
use Rattle.touch_writer.specs.Places.{news}
use Rattle.touch_writer.specs.Packet.{last_slot, packet}
use Rattle.touch_writer.specs.Choice.{placed}
use Rattle.touch_writer.specs.Search.{chosen}
use Rattle.touch_writer.specs.State.{State, HoldOnce}
use Rattle.touch_writer.proofs.Writing.{shall_be, IsWritten, last_below, still_writer, state_of, Writes, writes}
use Rattle.touch_writer.proofs.writer.Writer.packet.Goals as goal

pub overflow_cast-self : goal.overflow_cast-self
overflow_cast-self c =
    let rows : List Place = c.self.inside.rows in
    let want : List Want = c.args.want.now in
    let s : State = state_of c.self.inside.device c.from-2.result (take c.from.result rows) c.self.inside.used in
    let slots : length s.places ≡ c.from.result = length-take-le c.from.result rows (omega (arith, c.from.ensures, c.self.invariant.whole, c.self.invariant.most)) in
    let ns : c.as_slice.result.now ≡ news s.places want = c.as_slice.ensures.value ∙ c.new_contacts-news.ensures in
    let count : c.as_slice-count.result.now ≡ news s.places want = c.as_slice-count.ensures.value ∙ c.new_contacts-news.ensures in
    let settled : take (length s.places) c.placed-rows.result ≡ placed want s.places (chosen c.choose.result 0 s.places) c.as_slice.result.now s.used = c.placed-rows.ensures.placed in
    let last : c.packet-draft.result.1 ≡ last_slot s.current s.current 0 s.places (take (length s.places) c.placed-rows.result) = c.packet-draft.ensures.last in
    let written : IsWritten s want c.placed-rows.result c.self.inside.slots c.packet-draft.result.1 (length c.as_slice-count.result.now)
    = record {
      once = subst (λ (n : ℕ). HoldOnce (take n rows)) (sym c.from.ensures) c.self.invariant.once;
      rising = c.requires;
      fits = c.if-want-places.false;
      current = omega (arith, slots, c.from.ensures, c.from-2.ensures, c.self.invariant.inside);
      slots_are = slots ∙ c.from.ensures;
      rows_are = shall_be s want c.as_slice.result.now c.choose.result (take (length s.places) c.placed-rows.result) ns c.choose.ensures settled;
      last_is = last;
      count_is = ap (λ (ws : List Want). length ws) count;
    } in
    let below : c.packet-draft.result.1 < c.self.inside.slots = last_below s want c.placed-rows.result c.self.inside.slots c.packet-draft.result.1 (length c.as_slice-count.result.now) written in
    omega (arith, below, c.self.invariant.most)

pub invariant_of-self : goal.invariant_of-self
invariant_of-self c =
    let rows : List Place = c.self.inside.rows in
    let want : List Want = c.args.want.now in
    let s : State = state_of c.self.inside.device c.from-2.result (take c.from.result rows) c.self.inside.used in
    let slots : length s.places ≡ c.from.result = length-take-le c.from.result rows (omega (arith, c.from.ensures, c.self.invariant.whole, c.self.invariant.most)) in
    let ns : c.as_slice.result.now ≡ news s.places want = c.as_slice.ensures.value ∙ c.new_contacts-news.ensures in
    let count : c.as_slice-count.result.now ≡ news s.places want = c.as_slice-count.ensures.value ∙ c.new_contacts-news.ensures in
    let settled : take (length s.places) c.placed-rows.result ≡ placed want s.places (chosen c.choose.result 0 s.places) c.as_slice.result.now s.used = c.placed-rows.ensures.placed in
    let last : c.packet-draft.result.1 ≡ last_slot s.current s.current 0 s.places (take (length s.places) c.placed-rows.result) = c.packet-draft.ensures.last in
    let written : IsWritten s want c.placed-rows.result c.self.inside.slots c.packet-draft.result.1 (length c.as_slice-count.result.now)
    = record {
      once = subst (λ (n : ℕ). HoldOnce (take n rows)) (sym c.from.ensures) c.self.invariant.once;
      rising = c.requires;
      fits = c.if-want-places.false;
      current = omega (arith, slots, c.from.ensures, c.from-2.ensures, c.self.invariant.inside);
      slots_are = slots ∙ c.from.ensures;
      rows_are = shall_be s want c.as_slice.result.now c.choose.result (take (length s.places) c.placed-rows.result) ns c.choose.ensures settled;
      last_is = last;
      count_is = ap (λ (ws : List Want). length ws) count;
    } in
    still_writer s want c.placed-rows.result c.self.inside.slots c.packet-draft.result.1 (length c.as_slice-count.result.now) written
    c.self.invariant.some c.self.invariant.most c.placed-rows.ensures.whole c.if-count-self.false (omega (arith, c.self.invariant.counted))

pub returns-clause-packet : goal.returns-clause-packet
returns-clause-packet c =
    let rows : List Place = c.self.inside.rows in
    let want : List Want = c.args.want.now in
    let s : State = state_of c.self.inside.device c.from-2.result (take c.from.result rows) c.self.inside.used in
    let slots : length s.places ≡ c.from.result = length-take-le c.from.result rows (omega (arith, c.from.ensures, c.self.invariant.whole, c.self.invariant.most)) in
    let ns : c.as_slice.result.now ≡ news s.places want = c.as_slice.ensures.value ∙ c.new_contacts-news.ensures in
    let count : c.as_slice-count.result.now ≡ news s.places want = c.as_slice-count.ensures.value ∙ c.new_contacts-news.ensures in
    let settled : take (length s.places) c.placed-rows.result ≡ placed want s.places (chosen c.choose.result 0 s.places) c.as_slice.result.now s.used = c.placed-rows.ensures.placed in
    let last : c.packet-draft.result.1 ≡ last_slot s.current s.current 0 s.places (take (length s.places) c.placed-rows.result) = c.packet-draft.ensures.last in
    let written : IsWritten s want c.placed-rows.result c.self.inside.slots c.packet-draft.result.1 (length c.as_slice-count.result.now)
    = record {
      once = subst (λ (n : ℕ). HoldOnce (take n rows)) (sym c.from.ensures) c.self.invariant.once;
      rising = c.requires;
      fits = c.if-want-places.false;
      current = omega (arith, slots, c.from.ensures, c.from-2.ensures, c.self.invariant.inside);
      slots_are = slots ∙ c.from.ensures;
      rows_are = shall_be s want c.as_slice.result.now c.choose.result (take (length s.places) c.placed-rows.result) ns c.choose.ensures settled;
      last_is = last;
      count_is = ap (λ (ws : List Want). length ws) count;
    } in
    let was = c.in_ok-extend_from_slice.was in
    let appended : c.extend_from_slice.new.self.items ≡ c.args.out.now.items ++ c.as_slice-2.result.now = rw was at c.extend_from_slice.ensures.items in
    let said : c.as_slice-2.result.now ≡ packet s.device c.args.moment s.current s.places (take (length s.places) c.placed-rows.result)
    = c.as_slice-2.ensures ∙ c.packet-draft.ensures.events in
    let next : State = state_of c.self.inside.device c.packet-draft.result.1 (take c.self.inside.slots c.placed-rows.result) (c.self.inside.used + length c.as_slice-count.result.now) in
    let same : s ≡ c.args.self.now
    = ap (λ n. state_of c.self.inside.device n (take c.from.result rows) c.self.inside.used) c.from-2.ensures
    ∙ ap (λ n. state_of c.self.inside.device c.self.inside.current (take n rows) c.self.inside.used) c.from.ensures
    ∙ c.self.view_is in
    subst (λ (t : State). Writes t c.args.moment want c.args.out.now.items c.extend_from_slice.new.self.items next) same
    (writes s c.args.moment want c.placed-rows.result c.self.inside.slots c.packet-draft.result.1 (length c.as_slice-count.result.now)
    c.args.out.now.items c.as_slice-2.result.now c.extend_from_slice.new.self.items written appended said)
