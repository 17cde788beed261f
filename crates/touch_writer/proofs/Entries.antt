-- The table: an entry is the best choice, where the entries of the slot behind it are.
use Rattle.std.specs.Prelude.{◌≡◌, ℕ, ◌+◌, ◌-◌, ◌*◌, ◌<◌, ◌≤◌, ◌⊎◌, Bool, true, false, ◌||◌, nat_eq, nat_lt, nat_le, List, [], ◌∷◌, length, drop, get_or, is_some, if◌then◌else◌}
use Rattle.std.proofs.Common.{sym, ◌∙◌, ap, refl, arith, subst, inl, inr, length-drop, set}
use Rattle.std.proofs.lemmas.List.{get_or-set_same, get_or-set_other}
use Rattle.std.proofs.lemmas.Bool.{ltb-true, ltb-false}
use borrow.Author.Count.{below_more}
use Rattle.bits32.specs.Set.{is_in}
use Rattle.touch_writer.specs.declared.place.Place.{Place}
use Rattle.touch_writer.specs.declared.want.Want.{Want}
use Rattle.touch_writer.specs.declared.table.Best.{Best}
use Rattle.touch_writer.specs.Places.{kept}
use Rattle.touch_writer.specs.Choice.{remains, arrives}
use Rattle.touch_writer.specs.Search.{cost, free, fewest, IsBest, IsRow, blank}
use Rattle.touch_writer.proofs.Ids.{none_in}
use Rattle.touch_writer.proofs.Lists.{drop_item, item_at}
use Rattle.touch_writer.proofs.Said.{cost_few}
use Rattle.touch_writer.proofs.Choices.{here_of, later_of, comes_at, IsPair, pair_here, pair_later}

-- ---- a row

-- one entry more
pub row_more : (row : List Best) (e : Best) (want : List Want) (current s : ℕ) (ps : List Place) (ns : List Want) (next left : ℕ)
    → IsRow row want current s ps ns next left → get_or row left blank ≡ e
    → IsBest e want current s ps (drop (length ns - left) ns) (next + (length ns - left))
    → IsRow row want current s ps ns next (left + 1)
row_more row e want current s ps ns next left before here is k lt =
    below_more (λ (m : ℕ). IsBest (get_or row m blank) want current s ps (drop (length ns - m) ns) (next + (length ns - m))) left before
    (subst (λ (x : Best). IsBest x want current s ps (drop (length ns - left) ns) (next + (length ns - left))) (sym here) is)
    k lt

-- ---- how many events there are at most

fewest_if_few : (b : Bool) (here later most : ℕ) → here ≤ most → later ≤ most → (if b then here else later) ≤ most
fewest_if_few true here later most h l = h
fewest_if_few false here later most h l = l

pub fewest_few : (want : List Want) (current s : ℕ) (ps : List Place) (ns : List Want) (next : ℕ) → fewest want current s ps ns next ≤ 4 * length ps
fewest_few want current s [] ns next = omega arith
fewest_few want current s (p ∷ ps) [] next = omega (arith, cost_few current s p (remains want p), fewest_few want current (s + 1) ps [] next)
fewest_few want current s (p ∷ ps) (n ∷ ns) next =
    fewest_if_few (comes_at want current s p ps n ns next) (here_of want current s p ps n ns next) (later_of want current s p ps n ns next) (4 * length (p ∷ ps))
    (omega (arith, cost_few current s p (arrives n next), fewest_few want current (s + 1) ps ns (next + 1)))
    (omega (arith, cost_few current s p (remains want p), fewest_few want current (s + 1) ps (n ∷ ns) next))

free_at : (b : Bool) (room most : ℕ) → room ≤ most → (if b then 0 else 1) + room ≤ most + 1
free_at true room most h = omega (arith, h)
free_at false room most h = omega (arith, h)

pub free_few : (want : List Want) (ps : List Place) → free want ps ≤ length ps
free_few want [] = omega arith
free_few want (p ∷ ps) = omega (arith, free_at (is_some (kept want p)) (free want ps) (length ps) (free_few want ps))

le_or_lt_at : (k n : ℕ) (b : Bool) → nat_lt n k ≡ b → (k ≤ n) ⊎ (n < k)
le_or_lt_at k n true h = inr (ltb-true n k h)
le_or_lt_at k n false h = inl (ltb-false n k h)

le_or_lt : (k n : ℕ) → (k ≤ n) ⊎ (n < k)
le_or_lt k n = le_or_lt_at k n (nat_lt n k) refl

-- the entries of a row have few events
small_at : (row : List Best) (want : List Want) (current s : ℕ) (ps : List Place) (ns : List Want) (next k : ℕ) → IsRow row want current s ps ns next (length ns + 1)
    → ((m : ℕ) → length ns < m → get_or row m blank ≡ blank) → length ps ≤ 15 → (k ≤ length ns) ⊎ (length ns < k) → (get_or row k blank).events ≤ 60
small_at row want current s ps ns next k is blanks few (inl le) =
    omega (arith, (is k (omega (arith, le))).events, fewest_few want current s ps (drop (length ns - k) ns) (next + (length ns - k)), few)
small_at row want current s ps ns next k is blanks few (inr lt) =
    omega (arith, ap (λ (e : Best). e.events) (blanks k lt))

pub row_small : (row : List Best) (want : List Want) (current s : ℕ) (ps : List Place) (ns : List Want) (next : ℕ) → IsRow row want current s ps ns next (length ns + 1)
    → ((m : ℕ) → length ns < m → get_or row m blank ≡ blank) → length ps ≤ 15 → (k : ℕ) → (get_or row k blank).events ≤ 60
row_small row want current s ps ns next is blanks few k = small_at row want current s ps ns next k is blanks few (le_or_lt k (length ns))

-- behind the last slot no slot is chosen
pub row_end : (row : List Best) (want : List Want) (current s : ℕ) (ns : List Want) (next upto : ℕ) → ((k : ℕ) → get_or row k blank ≡ blank)
    → IsRow row want current s [] ns next upto
row_end row want current s ns next upto blanks left lt =
    subst (λ (e : Best). IsBest e want current s [] (drop (length ns - left) ns) (next + (length ns - left))) (sym (blanks left))
    (record { events = refl; slots = refl; above = λ k _. none_in k })

-- ---- where the last `left` new contacts are left

left_length : (news : List Want) (left : ℕ) (n : Want) → 0 < left → left ≤ length news → left ≡ length (n ∷ drop (length news - left + 1) news)
left_length news left n some few = omega (arith, length-drop (length news - left + 1) news)

-- a new contact less is left
fewer_left : (row : List Best) (want : List Want) (current s : ℕ) (ps : List Place) (news : List Want) (next left : ℕ) → 0 < left → left ≤ length news
    → IsRow row want current s ps news next (length news + 1)
    → IsBest (get_or row (left - 1) blank) want current s ps (drop (length news - left + 1) news) (next + (length news - left) + 1)
fewer_left row want current s ps news next left some few is =
    let one : length news - (left - 1) ≡ length news - left + 1 = omega arith in
    let sums : next + (length news - left + 1) ≡ next + (length news - left) + 1 = omega arith in
    subst (λ (x : ℕ). IsBest (get_or row (left - 1) blank) want current s ps (drop (length news - left + 1) news) x) sums
    (subst (λ (x : ℕ). IsBest (get_or row (left - 1) blank) want current s ps (drop x news) (next + x)) one (is (left - 1) (omega arith)))

-- Both choices for the first of them.
pub both_ways : (row : List Best) (want : List Want) (current s : ℕ) (p : Place) (ps : List Place) (news : List Want) (next left : ℕ) (n : Want) (here later q r : Best)
    → 0 < left → left ≤ length news → n ≡ get_or news (length news - left) n → IsRow row want current (s + 1) ps news next (length news + 1)
    → q ≡ get_or row (left - 1) blank → r ≡ get_or row left blank
    → here.events ≡ cost current s p (arrives n (next + (length news - left))) + q.events
    → ((k : ℕ) → is_in k here.slots ≡ (nat_eq k s || is_in k q.slots))
    → later.events ≡ cost current s p (remains want p) + r.events → later.slots ≡ r.slots → is_some (kept want p) ≡ false
    → IsPair want current s p ps n (drop (length news - left + 1) news) (next + (length news - left)) here later q r
both_ways row want current s p ps news next left n here later q r some few item is hq hr he hs le ls k = record {
  first = subst (λ (x : Best). IsBest x want current (s + 1) ps (drop (length news - left + 1) news) (next + (length news - left) + 1)) (sym hq)
      (fewer_left row want current (s + 1) ps news next left some few is);
  second = subst (λ (ns : List Want). IsBest r want current (s + 1) ps ns (next + (length news - left))) (drop_item news (length news - left) n (omega arith) item)
      (subst (λ (x : Best). IsBest x want current (s + 1) ps (drop (length news - left) news) (next + (length news - left))) (sym hr) (is left (omega arith)));
  here_events = he;
  here_slots = hs;
  later_events = le;
  later_slots = ls;
  unkept = k;
}

-- the new contact comes here
pub comes_here : (want : List Want) (current s : ℕ) (p : Place) (ps : List Place) (news : List Want) (next left room : ℕ) (n : Want) (here later q r : Best)
    → 0 < left → left ≤ length news → n ≡ get_or news (length news - left) n
    → IsPair want current s p ps n (drop (length news - left + 1) news) (next + (length news - left)) here later q r → room ≡ free want ps
    → (nat_lt room left || nat_le here.events later.events) ≡ true
    → IsBest here want current s (p ∷ ps) (drop (length news - left) news) (next + (length news - left))
comes_here want current s p ps news next left room n here later q r some few item pair er is =
    subst (λ (ns : List Want). IsBest here want current s (p ∷ ps) ns (next + (length news - left))) (sym (drop_item news (length news - left) n (omega arith) item))
    (pair_here want current s p ps n (drop (length news - left + 1) news) (next + (length news - left)) here later q r left room pair (left_length news left n some few) er is)

-- it comes later
pub comes_later : (want : List Want) (current s : ℕ) (p : Place) (ps : List Place) (news : List Want) (next left room : ℕ) (n : Want) (here later q r : Best)
    → 0 < left → left ≤ length news → n ≡ get_or news (length news - left) n
    → IsPair want current s p ps n (drop (length news - left + 1) news) (next + (length news - left)) here later q r → room ≡ free want ps
    → (nat_lt room left || nat_le here.events later.events) ≡ false
    → IsBest later want current s (p ∷ ps) (drop (length news - left) news) (next + (length news - left))
comes_later want current s p ps news next left room n here later q r some few item pair er is =
    subst (λ (ns : List Want). IsBest later want current s (p ∷ ps) ns (next + (length news - left))) (sym (drop_item news (length news - left) n (omega arith) item))
    (pair_later want current s p ps n (drop (length news - left + 1) news) (next + (length news - left)) here later q r left room pair (left_length news left n some few) er is)

pub none_left : (news : List Want) (left : ℕ) → left ≡ 0 → length (drop (length news - left) news) ≡ 0
none_left news left none = omega (arith, length-drop (length news - left) news)

-- ---- what the code reads

pub read_again : (row : List Best) (k : ℕ) (r : Best) → k < length row → r ≡ get_or row k r → get_or row k r ≡ get_or row k blank
read_again row k r lt is = sym is ∙ item_at row k r blank lt is

-- an entry counts at most 64 events
pub few_events : (row : List Best) (k : ℕ) (r : Best) (n : ℕ) → k < length row → k ≤ 16 → r ≡ get_or row k r → ((j : ℕ) → j ≤ 16 → (get_or row j blank).events ≤ 60) → n ≤ 4
    → n + (get_or row k r).events ≤ 64
few_events row k r n lt le is small few = omega (arith, ap (λ (e : Best). e.events) (read_again row k r lt is), small k le)

pub entry_events : (n current s : ℕ) (p q q2 : Place) (a b : Best) → n ≡ cost current s p q → q ≡ q2 → a ≡ b → n + a.events ≡ cost current s p q2 + b.events
entry_events n current s p q q2 a b hn hq hab =
    ap (λ m. m + a.events) (hn ∙ ap (λ x. cost current s p x) hq) ∙ ap (λ (x : Best). cost current s p q2 + x.events) hab

-- an entry is written into a row
pub row_set : (row : List Best) (e : Best) (want : List Want) (current s : ℕ) (ps : List Place) (ns : List Want) (next left : ℕ) → left < length row
    → IsRow row want current s ps ns next left → IsBest e want current s ps (drop (length ns - left) ns) (next + (length ns - left))
    → IsRow (set row left e) want current s ps ns next (left + 1)
row_set row e want current s ps ns next left inside before is =
    row_more (set row left e) e want current s ps ns next left
    (λ k lt. subst (λ (x : Best). IsBest x want current s ps (drop (length ns - k) ns) (next + (length ns - k)))
    (sym (get_or-set_other row left k e blank (λ same. omega (arith, same, lt)))) (before k lt))
    (get_or-set_same row left e blank inside) is

pub blanks_set : (row : List Best) (e : Best) (left : ℕ) → ((k : ℕ) → left ≤ k → get_or row k blank ≡ blank) → (k : ℕ) → left + 1 ≤ k → get_or (set row left e) k blank ≡ blank
blanks_set row e left before k le = get_or-set_other row left k e blank (λ same. omega (arith, same, le)) ∙ before k (omega (arith, le))

-- ---- one slot before

pub one_before : (places : List Place) (slot : ℕ) (p : Place) → 0 < slot → slot ≤ length places → p ≡ get_or places (slot - 1) p → drop (slot - 1) places ≡ p ∷ drop slot places
one_before places slot p some le is =
    let e : slot - 1 + 1 ≡ slot = omega arith in
    drop_item places (slot - 1) p (omega arith) is ∙ ap (λ n. p ∷ drop n places) e

pub row_before : (rest row : List Best) (want : List Want) (current slot : ℕ) (places : List Place) (news : List Want) (next : ℕ) (p : Place) → 0 < slot → slot ≤ length places
    → p ≡ get_or places (slot - 1) p → IsRow rest want current slot (drop slot places) news next (length news + 1)
    → (IsRow rest want current (slot - 1 + 1) (drop slot places) news next (length news + 1)
    → IsRow row want current (slot - 1) (p ∷ drop slot places) news next (length news + 1))
    → IsRow row want current (slot - 1) (drop (slot - 1) places) news next (length news + 1)
row_before rest row want current slot places news next p some le item is step left lt =
    let e : slot ≡ slot - 1 + 1 = omega arith in
    subst (λ (ps : List Place). IsBest (get_or row left blank) want current (slot - 1) ps (drop (length news - left) news) (next + (length news - left)))
    (sym (one_before places slot p some le item))
    (step (λ k few. subst (λ (s : ℕ). IsBest (get_or rest k blank) want current s (drop slot places) (drop (length news - k) news) (next + (length news - k))) e (is k few)) left lt)

pub free_before : (want : List Want) (places : List Place) (slot : ℕ) (p : Place) (count : ℕ) (b : Bool) → 0 < slot → slot ≤ length places → p ≡ get_or places (slot - 1) p
    → is_some (kept want p) ≡ b → count ≡ free want (drop slot places) → (if b then 0 else 1) + count ≡ free want (drop (slot - 1) places)
free_before want places slot p count b some le item hb hc =
    ap (λ n. (if b then 0 else 1) + n) hc
    ∙ ap (λ x. (if x then 0 else 1) + free want (drop slot places)) (sym hb)
    ∙ ap (λ ps. free want ps) (sym (one_before places slot p some le item))
