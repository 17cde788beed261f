-- What changes do to the rows of a table.
use Rattle.std.specs.Prelude.{◌≡◌, ℕ, Bool, true, false, ◌||◌, nat_eq, ℤ, pos, List, [], ◌∷◌, ◌++◌, map, reverse, if◌then◌else◌}
use Rattle.std.specs.Ordering.{int_eq}
use Rattle.std.proofs.Common.{sym, ◌∙◌, ap, refl, append_assoc, eq-eqb}
use Rattle.std.proofs.lemmas.List.{reverse-append}
use Rattle.std.proofs.lemmas.Bool.Decides.{Decides-int_eq}
use Rattle.raw_events.specs.declared.event.RawEvent.{RawEvent}
use Rattle.device_reader.specs.declared.slot_accumulator.slots.Row.{Row}
use Rattle.device_reader.specs.SlotAccumulator.SlotValues.{is_slot, current, row, row_after}
use Rattle.touch_writer.specs.declared.place.Place.{Place}
use Rattle.touch_writer.specs.Places.{tracking}
use Rattle.touch_writer.specs.Packet.{said, changes, in_slot, abs, report, is_empty}

-- the events of changes, before those that came before
abbrev pub say : ℕ → ℕ → List (ℕ × ℤ) → List RawEvent → List RawEvent
say d m [] past = past
say d m (c ∷ cs) past = say d m cs (abs d m c ∷ past)

pub say_more : (d m : ℕ) (cs bs : List (ℕ × ℤ)) (past : List RawEvent) → say d m (cs ++ bs) past ≡ say d m bs (say d m cs past)
say_more d m [] bs past = refl
say_more d m (c ∷ cs) bs past = say_more d m cs bs (abs d m c ∷ past)

pub say_all : (d m : ℕ) (cs : List (ℕ × ℤ)) (r : RawEvent) (past : List RawEvent) → reverse (map (λ c. abs d m c) cs ++ r ∷ []) ++ past ≡ r ∷ say d m cs past
say_all d m [] r past = refl
say_all d m (c ∷ cs) r past =
    let rest : List RawEvent = map (λ e. abs d m e) cs ++ r ∷ [] in
    ap (λ es. es ++ past) (reverse-append (abs d m c ∷ []) rest)
    ∙ append_assoc (reverse rest) (abs d m c ∷ []) past
    ∙ say_all d m cs r (abs d m c ∷ past)

-- the row of a slot that holds this
abbrev pub row_of : Place → Row
row_of p = record { tracking = tracking p; x = p.x; y = p.y; tool = pos 0 }

row_here : (past : List RawEvent) (e : RawEvent) (s : ℕ) → e.kind ≡ 3 → current past ≡ pos s → row s (e ∷ past) ≡ row_after e.code e.value (row s past)
row_here past e s k cur = rw (k, cur, eq-eqb s s refl) refl

pub row_other : (past : List RawEvent) (e : RawEvent) (s : ℕ) → is_slot (current past) s ≡ false → row s (e ∷ past) ≡ row s past
row_other past e s h = rw h refl

-- ---- one value

said_at : (d m code c : ℕ) (past : List RawEvent) (old new : ℤ) (b : Bool) → int_eq old new ≡ b → current past ≡ pos c
    → row_after code old (row c past) ≡ row c past
    → row c (say d m (if b then [] else (code, new) ∷ []) past) ≡ row_after code new (row c past)
said_at d m code c past old new true e cur h = sym (ap (λ v. row_after code v (row c past)) (sym ((Decides-int_eq old new).0 e)) ∙ h)
said_at d m code c past old new false e cur h = row_here past (abs d m (code, new)) c refl cur

said_row : (d m code c : ℕ) (past : List RawEvent) (old new : ℤ) (r : Row) → current past ≡ pos c → row c past ≡ r → row_after code old r ≡ r
    → row c (say d m (said code old new) past) ≡ row_after code new r
said_row d m code c past old new r cur is same =
    said_at d m code c past old new (int_eq old new) refl cur (ap (λ x. row_after code old x) is ∙ same ∙ sym is)
    ∙ ap (λ x. row_after code new x) is

said_current_at : (d m code : ℕ) (past : List RawEvent) (new : ℤ) (b : Bool) → nat_eq code 47 ≡ false
    → current (say d m (if b then [] else (code, new) ∷ []) past) ≡ current past
said_current_at d m code past new true h = refl
said_current_at d m code past new false h = rw h refl

said_current : (d m code : ℕ) (past : List RawEvent) (old new : ℤ) → nat_eq code 47 ≡ false → current (say d m (said code old new) past) ≡ current past
said_current d m code past old new h = said_current_at d m code past new (int_eq old new) h

said_other_at : (d m code s : ℕ) (past : List RawEvent) (new : ℤ) (b : Bool) → is_slot (current past) s ≡ false
    → row s (say d m (if b then [] else (code, new) ∷ []) past) ≡ row s past
said_other_at d m code s past new true h = refl
said_other_at d m code s past new false h = row_other past (abs d m (code, new)) s h

said_other : (d m code s : ℕ) (past : List RawEvent) (old new : ℤ) → is_slot (current past) s ≡ false → row s (say d m (said code old new) past) ≡ row s past
said_other d m code s past old new h = said_other_at d m code s past new (int_eq old new) h

-- ---- all values of a slot

split : (d m : ℕ) (p q : Place) (past : List RawEvent) → say d m (changes p q) past
    ≡ say d m (said 54 p.y q.y) (say d m (said 53 p.x q.x) (say d m (said 57 (tracking p) (tracking q)) past))
split d m p q past =
    say_more d m (said 57 (tracking p) (tracking q) ++ said 53 p.x q.x) (said 54 p.y q.y) past
    ∙ ap (λ es. say d m (said 54 p.y q.y) es) (say_more d m (said 57 (tracking p) (tracking q)) (said 53 p.x q.x) past)

pub changes_row : (d m c : ℕ) (p q : Place) (past : List RawEvent) → current past ≡ pos c → row c past ≡ row_of p → row c (say d m (changes p q) past) ≡ row_of q
changes_row d m c p q past cur is =
    let one : List RawEvent = say d m (said 57 (tracking p) (tracking q)) past in
    let two : List RawEvent = say d m (said 53 p.x q.x) one in
    let cur1 : current one ≡ pos c = said_current d m 57 past (tracking p) (tracking q) refl ∙ cur in
    let cur2 : current two ≡ pos c = said_current d m 53 one p.x q.x refl ∙ cur1 in
    let r1 : row c one ≡ record { tracking = tracking q; x = p.x; y = p.y; tool = pos 0 } = said_row d m 57 c past (tracking p) (tracking q) (row_of p) cur is refl in
    let r2 : row c two ≡ record { tracking = tracking q; x = q.x; y = p.y; tool = pos 0 } =
    said_row d m 53 c one p.x q.x (record { tracking = tracking q; x = p.x; y = p.y; tool = pos 0 }) cur1 r1 refl in
    ap (λ es. row c es) (split d m p q past)
    ∙ said_row d m 54 c two p.y q.y (record { tracking = tracking q; x = q.x; y = p.y; tool = pos 0 }) cur2 r2 refl

pub changes_current : (d m : ℕ) (p q : Place) (past : List RawEvent) → current (say d m (changes p q) past) ≡ current past
changes_current d m p q past =
    let one : List RawEvent = say d m (said 57 (tracking p) (tracking q)) past in
    let two : List RawEvent = say d m (said 53 p.x q.x) one in
    ap (λ es. current es) (split d m p q past)
    ∙ said_current d m 54 two p.y q.y refl
    ∙ said_current d m 53 one p.x q.x refl
    ∙ said_current d m 57 past (tracking p) (tracking q) refl

pub changes_other : (d m s : ℕ) (p q : Place) (past : List RawEvent) → is_slot (current past) s ≡ false → row s (say d m (changes p q) past) ≡ row s past
changes_other d m s p q past h =
    let one : List RawEvent = say d m (said 57 (tracking p) (tracking q)) past in
    let two : List RawEvent = say d m (said 53 p.x q.x) one in
    let cur1 : current one ≡ current past = said_current d m 57 past (tracking p) (tracking q) refl in
    let cur2 : current two ≡ current past = said_current d m 53 one p.x q.x refl ∙ cur1 in
    ap (λ es. row s es) (split d m p q past)
    ∙ said_other d m 54 s two p.y q.y (ap (λ v. is_slot v s) cur2 ∙ h)
    ∙ said_other d m 53 s one p.x q.x (ap (λ v. is_slot v s) cur1 ∙ h)
    ∙ said_other d m 57 s past (tracking p) (tracking q) h

-- ---- behind an ABS_MT_SLOT

slot_keeps_at : (d m s : ℕ) (v : ℤ) (past : List RawEvent) (b : Bool) → is_slot (current past) s ≡ b → row s (abs d m (47, v) ∷ past) ≡ row s past
slot_keeps_at d m s v past true h = rw h refl
slot_keeps_at d m s v past false h = rw h refl

slot_keeps : (d m s : ℕ) (v : ℤ) (past : List RawEvent) → row s (abs d m (47, v) ∷ past) ≡ row s past
slot_keeps d m s v past = slot_keeps_at d m s v past (is_slot (current past) s) refl

report_keeps_at : (d m s : ℕ) (past : List RawEvent) (b : Bool) → is_slot (current past) s ≡ b → row s (report d m ∷ past) ≡ row s past
report_keeps_at d m s past true h = rw h refl
report_keeps_at d m s past false h = rw h refl

pub report_keeps : (d m s : ℕ) (past : List RawEvent) → row s (report d m ∷ past) ≡ row s past
report_keeps d m s past = report_keeps_at d m s past (is_slot (current past) s) refl

in_slot_row : (d m i : ℕ) (cs : List (ℕ × ℤ)) (past : List RawEvent) (r : Row) → row i (say d m cs (abs d m (47, pos i) ∷ past)) ≡ r
    → row i (say d m (in_slot i cs) past) ≡ r
in_slot_row d m i [] past r h = sym (slot_keeps d m i (pos i) past) ∙ h
in_slot_row d m i (c ∷ cs) past r h = h

in_slot_other : (d m i s : ℕ) (cs : List (ℕ × ℤ)) (past : List RawEvent)
    → row s (say d m cs (abs d m (47, pos i) ∷ past)) ≡ row s (abs d m (47, pos i) ∷ past) → row s (say d m (in_slot i cs) past) ≡ row s past
in_slot_other d m i s [] past h = refl
in_slot_other d m i s (c ∷ cs) past h = h ∙ slot_keeps d m s (pos i) past

in_slot_current : (d m i now : ℕ) (cs : List (ℕ × ℤ)) (past : List RawEvent) → current past ≡ pos now
    → current (say d m cs (abs d m (47, pos i) ∷ past)) ≡ pos i → current (say d m (in_slot i cs) past) ≡ pos (if is_empty cs then now else i)
in_slot_current d m i now [] past cur h = cur
in_slot_current d m i now (c ∷ cs) past cur h = h

-- ---- one slot of the others

pub step_row : (d m i : ℕ) (p q : Place) (past : List RawEvent) (b : Bool) → row i past ≡ (if b then row_of q else row_of p)
    → row i (say d m (if b then [] else in_slot i (changes p q)) past) ≡ row_of q
step_row d m i p q past true is = is
step_row d m i p q past false is =
    in_slot_row d m i (changes p q) past (row_of q)
    (changes_row d m i p q (abs d m (47, pos i) ∷ past) refl (slot_keeps d m i (pos i) past ∙ is))

pub step_other : (d m i s : ℕ) (p q : Place) (past : List RawEvent) (b : Bool) → nat_eq i s ≡ false
    → row s (say d m (if b then [] else in_slot i (changes p q)) past) ≡ row s past
step_other d m i s p q past true ne = refl
step_other d m i s p q past false ne = in_slot_other d m i s (changes p q) past (changes_other d m s p q (abs d m (47, pos i) ∷ past) ne)

pub step_current : (d m i now : ℕ) (p q : Place) (past : List RawEvent) (b : Bool) → current past ≡ pos now
    → current (say d m (if b then [] else in_slot i (changes p q)) past) ≡ pos (if b || is_empty (changes p q) then now else i)
step_current d m i now p q past true cur = cur
step_current d m i now p q past false cur =
    in_slot_current d m i now (changes p q) past cur (changes_current d m p q (abs d m (47, pos i) ∷ past))
