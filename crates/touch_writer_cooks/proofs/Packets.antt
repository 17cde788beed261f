-- What the rows of a table are behind a packet.
use Rattle.std.specs.Prelude.{◌≡◌, ℕ, zero, suc, ◌+◌, ◌<◌, ◌≤◌, Bool, true, false, ◌&&◌, ◌||◌, nat_eq, ℤ, pos, List, [], ◌∷◌, ◌++◌, length, if◌then◌else◌}
use Rattle.std.specs.Ordering.{int_eq}
use Rattle.std.proofs.Common.{sym, ◌∙◌, ap, subst, refl, arith, eq-eqb, ne_eqb}
use Rattle.std.proofs.lemmas.Bool.{eqb-true, and_right}
use Rattle.raw_events.specs.declared.event.RawEvent.{RawEvent}
use Rattle.device_reader.specs.declared.slot_accumulator.slots.Row.{Row}
use Rattle.device_reader.specs.SlotAccumulator.SlotValues.{is_slot, current, row}
use Rattle.device_reader.specs.SlotAccumulator.SlotContacts.{is_palm, palm_below, holds, holds_palm, has_palm_tool}
use Rattle.touch_writer.specs.declared.place.Place.{Place}
use Rattle.touch_writer.specs.Places.{place_at}
use Rattle.touch_writer.specs.Packet.{changes, others, in_slot, abs, report, is_empty, last_slot}
use Rattle.touch_writer_cooks.proofs.Rows.{say, say_more, row_of, report_keeps, changes_row, changes_current, changes_other, step_row, step_other, step_current}

-- the rows of the slots from `i` on are those of these places
abbrev pub AreRows : List RawEvent → ℕ → List Place → Type 0
AreRows past i [] = Unit {0}
AreRows past i (p ∷ ps) = (row i past ≡ row_of p) × AreRows past (i + 1) ps

-- that of the current slot is written already
abbrev AreLeft : ℕ → List RawEvent → ℕ → List Place → List Place → Type 0
AreLeft cur past i [] [] = Unit {0}
AreLeft cur past i [] (q ∷ qs) = ⊥
AreLeft cur past i (p ∷ ps) [] = ⊥
AreLeft cur past i (p ∷ ps) (q ∷ qs) = (row i past ≡ (if nat_eq i cur then row_of q else row_of p)) × AreLeft cur past (i + 1) ps qs

lower : (s i : ℕ) → s < i → nat_eq i s ≡ false
lower s i lt = ne_eqb i s (λ e. omega (arith, e, lt))

higher : (s i : ℕ) → i < s → nat_eq i s ≡ false
higher s i lt = ne_eqb i s (λ e. omega (arith, e, lt))

left_keeps : (cur : ℕ) (past later : List RawEvent) (i : ℕ) (ps qs : List Place) → ((s : ℕ) → i ≤ s → row s later ≡ row s past)
    → AreLeft cur past i ps qs → AreLeft cur later i ps qs
left_keeps cur past later i [] [] same h = tt
left_keeps cur past later i [] (q ∷ qs) same h = h
left_keeps cur past later i (p ∷ ps) [] same h = h
left_keeps cur past later i (p ∷ ps) (q ∷ qs) same h =
    (same i (omega arith) ∙ h.0, left_keeps cur past later (i + 1) ps qs (λ s le. same s (omega (arith, le))) h.1)

-- what is written to one slot
abbrev one : ℕ → ℕ → Place → Place → List (ℕ × ℤ)
one cur i p q = if nat_eq i cur then [] else in_slot i (changes p q)

others_below : (d m cur s i : ℕ) (ps qs : List Place) (past : List RawEvent) → s < i → row s (say d m (others cur i ps qs) past) ≡ row s past
others_below d m cur s i [] qs past lt = refl
others_below d m cur s i (p ∷ ps) [] past lt = refl
others_below d m cur s i (p ∷ ps) (q ∷ qs) past lt =
    ap (λ es. row s es) (say_more d m (one cur i p q) (others cur (i + 1) ps qs) past)
    ∙ others_below d m cur s (i + 1) ps qs (say d m (one cur i p q) past) (omega (arith, lt))
    ∙ step_other d m i s p q past (nat_eq i cur) (lower s i lt)

others_rows : (d m cur i : ℕ) (ps qs : List Place) (past : List RawEvent) → AreLeft cur past i ps qs → AreRows (say d m (others cur i ps qs) past) i qs
others_rows d m cur i [] [] past h = tt
others_rows d m cur i [] (q ∷ qs) past h = absurd h
others_rows d m cur i (p ∷ ps) [] past h = absurd h
others_rows d m cur i (p ∷ ps) (q ∷ qs) past h =
    let next : List RawEvent = say d m (one cur i p q) past in
    let left : AreLeft cur next (i + 1) ps qs =
    left_keeps cur past next (i + 1) ps qs (λ s le. step_other d m i s p q past (nat_eq i cur) (higher s i (omega (arith, le)))) h.1 in
    subst (λ es. AreRows es i (q ∷ qs)) (sym (say_more d m (one cur i p q) (others cur (i + 1) ps qs) past)) (
      others_below d m cur i (i + 1) ps qs next (omega arith) ∙ step_row d m i p q past (nat_eq i cur) h.0,
      others_rows d m cur (i + 1) ps qs next left,
    )

others_current : (d m now cur i : ℕ) (ps qs : List Place) (past : List RawEvent) → current past ≡ pos now
    → current (say d m (others cur i ps qs) past) ≡ pos (last_slot now cur i ps qs)
others_current d m now cur i [] qs past h = h
others_current d m now cur i (p ∷ ps) [] past h = h
others_current d m now cur i (p ∷ ps) (q ∷ qs) past h =
    ap (λ es. current es) (say_more d m (one cur i p q) (others cur (i + 1) ps qs) past)
    ∙ others_current d m (if nat_eq i cur || is_empty (changes p q) then now else i) cur (i + 1) ps qs (say d m (one cur i p q) past)
    (step_current d m i now p q past (nat_eq i cur) h)

-- ---- the current slot comes first

row_same : (past : List RawEvent) (a b : ℕ) → a ≡ b → row a past ≡ row b past
row_same past a b e = ap (λ s. row s past) e

row_at : (past : List RawEvent) (i : ℕ) (ps : List Place) (k : ℕ) → AreRows past i ps → k < length ps → row (i + k) past ≡ row_of (place_at k ps)
row_at past i [] k h lt = absurd (omega (arith, lt))
row_at past i (p ∷ ps) zero h lt = row_same past (i + zero) i (omega arith) ∙ h.0
row_at past i (p ∷ ps) (suc k) h lt = row_same past (i + suc k) (i + 1 + k) (omega arith) ∙ row_at past (i + 1) ps k h.1 (omega (arith, lt))

left_at : (cur i : ℕ) (p q : Place) (past later : List RawEvent) (b : Bool) → nat_eq cur i ≡ b → row i past ≡ row_of p
    → (nat_eq cur i ≡ false → row i later ≡ row i past) → (cur ≡ i → row cur later ≡ row_of q) → row i later ≡ (if nat_eq i cur then row_of q else row_of p)
left_at cur i p q past later true e is same there =
    let here : cur ≡ i = eqb-true cur i e in
    rw (eq-eqb i cur (sym here)) (ap (λ s. row s later) (sym here) ∙ there here)
left_at cur i p q past later false e is same there =
    let other : nat_eq i cur ≡ false = ne_eqb i cur (λ s. let here : nat_eq cur i ≡ true = eq-eqb cur i (sym s) in absurd (cc)) in
    rw other (same e ∙ is)

left_first : (cur i : ℕ) (ps qs : List Place) (past later : List RawEvent) → length ps ≡ length qs → AreRows past i ps
    → ((s : ℕ) → nat_eq cur s ≡ false → row s later ≡ row s past)
    → ((k : ℕ) → i + k ≡ cur → row cur later ≡ row_of (place_at k qs)) → AreLeft cur later i ps qs
left_first cur i [] [] past later len h same there = tt
left_first cur i [] (q ∷ qs) past later len h same there = absurd (omega (arith, len))
left_first cur i (p ∷ ps) [] past later len h same there = absurd (omega (arith, len))
left_first cur i (p ∷ ps) (q ∷ qs) past later len h same there = (
  left_at cur i p q past later (nat_eq cur i) refl h.0 (λ ne. same i ne) (λ e. there zero (omega (arith, e))),
  left_first cur (i + 1) ps qs past later (omega (arith, len)) h.1 same (λ k e. there (suc k) (omega (arith, e))),
)

place_same : (a b : ℕ) (ps : List Place) → a ≡ b → row_of (place_at a ps) ≡ row_of (place_at b ps)
place_same a b ps e = ap (λ j. row_of (place_at j ps)) e

-- the changes of a packet, without its SYN_REPORT
abbrev pub said_in : ℕ → List Place → List Place → List (ℕ × ℤ)
said_in cur old new = changes (place_at cur old) (place_at cur new) ++ others cur 0 old new

pub packet_rows : (d m cur : ℕ) (old new : List Place) (past : List RawEvent) → cur < length old → length old ≡ length new → current past ≡ pos cur → AreRows past 0 old
    → AreRows (say d m (said_in cur old new) past) 0 new
packet_rows d m cur old new past lt len now h =
    let p : Place = place_at cur old in
    let q : Place = place_at cur new in
    let later : List RawEvent = say d m (changes p q) past in
    let was : row cur past ≡ row_of p = row_same past cur (0 + cur) (omega arith) ∙ row_at past 0 old cur h lt in
    let is : row cur later ≡ row_of q = changes_row d m cur p q past now was in
    subst (λ es. AreRows es 0 new) (sym (say_more d m (changes p q) (others cur 0 old new) past))
    (others_rows d m cur 0 old new later
    (left_first cur 0 old new past later len h
    (λ s ne. changes_other d m s p q past (ap (λ v. is_slot v s) now ∙ ne))
    (λ k e. is ∙ place_same cur k new (omega (arith, e)))))

pub packet_current : (d m cur : ℕ) (old new : List Place) (past : List RawEvent) → current past ≡ pos cur
    → current (say d m (said_in cur old new) past) ≡ pos (last_slot cur cur 0 old new)
packet_current d m cur old new past now =
    let p : Place = place_at cur old in
    let q : Place = place_at cur new in
    let later : List RawEvent = say d m (changes p q) past in
    ap (λ es. current es) (say_more d m (changes p q) (others cur 0 old new) past)
    ∙ others_current d m cur cur 0 old new later (changes_current d m p q past ∙ now)

-- ---- the SYN_REPORT

pub reported : (d m i : ℕ) (ps : List Place) (past : List RawEvent) → AreRows past i ps → AreRows (report d m ∷ past) i ps
reported d m i [] past h = tt
reported d m i (p ∷ ps) past h = (report_keeps d m i past ∙ h.0, reported d m (i + 1) ps past h.1)

-- ---- no contact is a palm

pub say_palms : (d m slots : ℕ) (cs : List (ℕ × ℤ)) (past : List RawEvent) (t : ℤ) → is_palm slots (say d m cs past) t ≡ is_palm slots past t
say_palms d m slots [] past t = refl
say_palms d m slots (c ∷ cs) past t = say_palms d m slots cs (abs d m c ∷ past) t

or_both : (a b : Bool) → a ≡ false → b ≡ false → (a || b) ≡ false
or_both a b p q = ap (λ x. x || b) p ∙ q

no_palm_below : (rows : ℕ → Row) (before : ℤ → Bool) (t : ℤ) (n : ℕ) → ((s : ℕ) → s < n → (rows s).tool ≡ pos 0) → before t ≡ false → palm_below rows before n t ≡ false
no_palm_below rows before t zero tools none = refl
no_palm_below rows before t (suc s) tools none =
    let finger : has_palm_tool (rows s) ≡ false = ap (λ v. int_eq v (pos 2)) (tools s (omega arith)) in
    or_both (palm_below rows before s t) (holds_palm rows before s t)
    (no_palm_below rows before t s (λ k lt. tools k (omega (arith, lt))) none)
    (and_right (holds rows s && int_eq (rows s).tracking t) (has_palm_tool (rows s) || before t) (or_both (has_palm_tool (rows s)) (before t) finger none))

tool_at : (past : List RawEvent) (ps : List Place) (s : ℕ) → AreRows past 0 ps → s < length ps → (row s past).tool ≡ pos 0
tool_at past ps s h lt = ap (λ (r : Row). r.tool) (row_same past s (0 + s) (omega arith) ∙ row_at past 0 ps s h lt)

pub no_palms : (d m slots : ℕ) (ps : List Place) (past : List RawEvent) (t : ℤ) → length ps ≡ slots → AreRows past 0 ps → is_palm slots past t ≡ false
    → is_palm slots (report d m ∷ past) t ≡ false
no_palms d m slots ps past t len h none =
    no_palm_below (λ s. row s past) (λ k. is_palm slots past k) t slots (λ s lt. tool_at past ps s h (omega (arith, lt, len))) none
