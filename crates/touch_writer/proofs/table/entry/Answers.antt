-- An entry is the better one of the two choices.
use Rattle.std.specs.Prelude.{◌≡◌, ℕ, ◌+◌, ◌-◌, ◌<◌, ◌≤◌, ◌||◌, true, false, nat_eq, List, length, drop, get_or, is_some}
use Rattle.std.proofs.Common.{sym, ◌∙◌, ap, refl, arith}
use Rattle.bits32.specs.Set.{is_in}
use Rattle.touch_writer.specs.declared.want.Want.{Want}
use Rattle.touch_writer.specs.declared.table.Best.{Best}
use Rattle.touch_writer.specs.Places.{kept}
use Rattle.touch_writer.specs.Choice.{remains, arrives}
use Rattle.touch_writer.specs.Search.{blank, cost, IsBest}
use Rattle.touch_writer.proofs.Choices.{entry_none, entry_kept, IsPair}
use Rattle.touch_writer.proofs.Entries.{read_again, few_events, entry_events, none_left, both_ways, comes_here, comes_later}
use Rattle.touch_writer.proofs.table.entry.Goals.{then-left-eq0-via-then-left-eq0, then-left-eq0-via-else-left-eq0+then-is_some}
use Rattle.touch_writer.proofs.table.entry.Goals as goal

pub overflow_add-later : goal.overflow_add-later
overflow_add-later c =
    let few : c.cost.result + (get_or c.args.rest.now c.args.left c.index-rest-left.result).events ≤ 64
    = few_events c.args.rest.now c.args.left c.index-rest-left.result c.cost.result (omega (arith, c.type_inv.rest, c.requires.left, c.requires.few))
    (omega (arith, c.requires.left, c.requires.few)) c.index-rest-left.is c.requires.small c.cost.ensures.small in
    omega (arith, few)

pub overflow_add-here : goal.overflow_add-here
overflow_add-here c =
    let few : c.cost-2.result + (get_or c.args.rest.now (c.args.left - 1) c.index-rest-left-4.result).events ≤ 64
    = few_events c.args.rest.now (c.args.left - 1) c.index-rest-left-4.result c.cost-2.result (omega (arith, c.type_inv.rest, c.requires.left, c.requires.few))
    (omega (arith, c.requires.left, c.requires.few)) c.index-rest-left-4.is c.requires.small c.cost-2.ensures.small in
    omega (arith, few)

pub returns-then-left-eq0 : goal.returns-then-left-eq0
returns-then-left-eq0 c = record {
  best = λ behind room row.
      let want : List Want = c.args.case.now.want.now in
      let news : List Want = c.args.case.now.news.now in
      let next : ℕ = c.args.case.now.next + (length news - c.args.left) in
      let lt : c.args.left < length c.args.rest.now = omega (arith, c.type_inv.rest, c.requires.left, c.requires.few) in
      let first : get_or c.args.rest.now c.args.left c.index-rest-left.result ≡ get_or c.args.rest.now c.args.left blank
      = read_again c.args.rest.now c.args.left c.index-rest-left.result lt c.index-rest-left.is in
      let second : get_or c.args.rest.now c.args.left c.index-rest-left-2.result ≡ get_or c.args.rest.now c.args.left blank
      = read_again c.args.rest.now c.args.left c.index-rest-left-2.result lt c.index-rest-left-2.is in
      let e : Best = record {
        events = c.cost.result + (get_or c.args.rest.now c.args.left c.index-rest-left.result).events;
        slots = (get_or c.args.rest.now c.args.left c.index-rest-left-2.result).slots;
      } in
      let events : e.events ≡ cost c.args.case.now.current c.args.slot c.args.place.now (remains want c.args.place.now) + (get_or c.args.rest.now c.args.left blank).events
      = entry_events c.cost.result c.args.case.now.current c.args.slot c.args.place.now c.remains.result (remains want c.args.place.now)
      (get_or c.args.rest.now c.args.left c.index-rest-left.result) (get_or c.args.rest.now c.args.left blank) c.cost.ensures.value c.remains.ensures first in
      let slots : e.slots ≡ (get_or c.args.rest.now c.args.left blank).slots = ap (λ (x : Best). x.slots) second in
      let is : IsBest (get_or c.args.rest.now c.args.left blank) want c.args.case.now.current (c.args.slot + 1) behind (drop (length news - c.args.left) news) next
      = row c.args.left (omega (arith, c.requires.left)) in
      elim c.then-left-eq0.branch [
        | then-left-eq0-via-then-left-eq0 w ↦
            entry_none want c.args.case.now.current c.args.slot c.args.place.now behind (drop (length news - c.args.left) news) next e (get_or c.args.rest.now c.args.left blank)
            (none_left news c.args.left w.if-left-eq0.true) is events slots
        | then-left-eq0-via-else-left-eq0+then-is_some w ↦
            let k : is_some (kept want c.args.place.now) ≡ true = cc (w.is_some.ensures, w.kept.ensures, w.if-is_some.true) in
            entry_kept want c.args.case.now.current c.args.slot c.args.place.now behind (drop (length news - c.args.left) news) next e (get_or c.args.rest.now c.args.left blank)
            k is events slots
      ];
}

pub returns-then-comes_first : goal.returns-then-comes_first
returns-then-comes_first c = record {
  best = λ behind room row.
      let want : List Want = c.args.case.now.want.now in
      let news : List Want = c.args.case.now.news.now in
      let current : ℕ = c.args.case.now.current in
      let left : ℕ = c.args.left in
      let table : List Best = c.args.rest.now in
      let next : ℕ = c.args.case.now.next + (length news - left) in
      let some : 0 < left = omega (arith, c.if-left-eq0.false) in
      let lt : left < length table = omega (arith, c.type_inv.rest, c.requires.left, c.requires.few) in
      let less : left - 1 < length table = omega (arith, lt) in
      let n : Want = c.index-case-at.result in
      let q : Best = get_or table (left - 1) blank in
      let r : Best = get_or table left blank in
      let here : Best = record { events = c.cost-2.result + (get_or table (left - 1) c.index-rest-left-4.result).events; slots = c.mark.new.self } in
      let later : Best = record { events = c.cost.result + (get_or table left c.index-rest-left.result).events; slots = (get_or table left c.index-rest-left-2.result).slots } in
      let marks : (k : ℕ) → is_in k here.slots ≡ (nat_eq k c.args.slot || is_in k q.slots)
      = λ k. c.mark.ensures.has k
      ∙ ap (λ (x : Best). nat_eq k c.args.slot || is_in k x.slots) (read_again table (left - 1) c.index-rest-left-3.result less c.index-rest-left-3.is) in
      let k : is_some (kept want c.args.place.now) ≡ false = cc (c.is_some.ensures, c.kept.ensures, c.if-is_some.false) in
      let pair : IsPair want current c.args.slot c.args.place.now behind n (drop (length news - left + 1) news) next here later q r
      = both_ways table want current c.args.slot c.args.place.now behind news c.args.case.now.next left n here later q r
      some c.requires.left c.index-case-at.is row refl refl
      (entry_events c.cost-2.result current c.args.slot c.args.place.now c.arrives-new.result (arrives n next)
      (get_or table (left - 1) c.index-rest-left-4.result) q c.cost-2.ensures.value (c.arrives-new.ensures ∙ ap (λ m. arrives m next) (sym c.index-case-at.is))
      (read_again table (left - 1) c.index-rest-left-4.result less c.index-rest-left-4.is))
      marks
      (entry_events c.cost.result current c.args.slot c.args.place.now c.remains.result (remains want c.args.place.now)
      (get_or table left c.index-rest-left.result) r c.cost.ensures.value c.remains.ensures
      (read_again table left c.index-rest-left.result lt c.index-rest-left.is))
      (ap (λ (x : Best). x.slots) (read_again table left c.index-rest-left-2.result lt c.index-rest-left-2.is))
      k in
      comes_here want current c.args.slot c.args.place.now behind news c.args.case.now.next left c.args.free n here later q r some c.requires.left c.index-case-at.is
      pair room (sym c.comes_first.ensures ∙ c.if-comes_first.true);
}

pub returns-else-comes_first : goal.returns-else-comes_first
returns-else-comes_first c = record {
  best = λ behind room row.
      let want : List Want = c.args.case.now.want.now in
      let news : List Want = c.args.case.now.news.now in
      let current : ℕ = c.args.case.now.current in
      let left : ℕ = c.args.left in
      let table : List Best = c.args.rest.now in
      let next : ℕ = c.args.case.now.next + (length news - left) in
      let some : 0 < left = omega (arith, c.if-left-eq0.false) in
      let lt : left < length table = omega (arith, c.type_inv.rest, c.requires.left, c.requires.few) in
      let less : left - 1 < length table = omega (arith, lt) in
      let n : Want = c.index-case-at.result in
      let q : Best = get_or table (left - 1) blank in
      let r : Best = get_or table left blank in
      let here : Best = record { events = c.cost-2.result + (get_or table (left - 1) c.index-rest-left-4.result).events; slots = c.mark.new.self } in
      let later : Best = record { events = c.cost.result + (get_or table left c.index-rest-left.result).events; slots = (get_or table left c.index-rest-left-2.result).slots } in
      let marks : (k : ℕ) → is_in k here.slots ≡ (nat_eq k c.args.slot || is_in k q.slots)
      = λ k. c.mark.ensures.has k
      ∙ ap (λ (x : Best). nat_eq k c.args.slot || is_in k x.slots) (read_again table (left - 1) c.index-rest-left-3.result less c.index-rest-left-3.is) in
      let k : is_some (kept want c.args.place.now) ≡ false = cc (c.is_some.ensures, c.kept.ensures, c.if-is_some.false) in
      let pair : IsPair want current c.args.slot c.args.place.now behind n (drop (length news - left + 1) news) next here later q r
      = both_ways table want current c.args.slot c.args.place.now behind news c.args.case.now.next left n here later q r
      some c.requires.left c.index-case-at.is row refl refl
      (entry_events c.cost-2.result current c.args.slot c.args.place.now c.arrives-new.result (arrives n next)
      (get_or table (left - 1) c.index-rest-left-4.result) q c.cost-2.ensures.value (c.arrives-new.ensures ∙ ap (λ m. arrives m next) (sym c.index-case-at.is))
      (read_again table (left - 1) c.index-rest-left-4.result less c.index-rest-left-4.is))
      marks
      (entry_events c.cost.result current c.args.slot c.args.place.now c.remains.result (remains want c.args.place.now)
      (get_or table left c.index-rest-left.result) r c.cost.ensures.value c.remains.ensures
      (read_again table left c.index-rest-left.result lt c.index-rest-left.is))
      (ap (λ (x : Best). x.slots) (read_again table left c.index-rest-left-2.result lt c.index-rest-left-2.is))
      k in
      comes_later want current c.args.slot c.args.place.now behind news c.args.case.now.next left c.args.free n here later q r some c.requires.left c.index-case-at.is
      pair room (sym c.comes_first.ensures ∙ c.if-comes_first.false);
}
