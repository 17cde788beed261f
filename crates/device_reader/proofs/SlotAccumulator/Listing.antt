-- Lists of contacts, slot by slot.
use Rattle.std.specs.Prelude.{◌≡◌, ◌≢◌, ℕ, zero, suc, ◌<◌, ◌≤◌, Bool, true, false, not, ◌||◌, ◌&&◌, ℤ, pos, negsuc, nat_eq, ◌≤ℤ◌, List, [], ◌∷◌, ◌++◌, length, take, if◌then◌else◌, int_le}
use Rattle.std.specs.List.{list_any}
use Rattle.std.specs.Ordering.{int_eq}
use Rattle.std.proofs.Common.{sym, ◌∙◌, ap, refl, arith, rules, length-append, take-suc, get_or-take, length-take-le}
use Rattle.std.proofs.lemmas.List.Folds.{list_any-append}
use Rattle.std.proofs.lemmas.Bool.{eqb-true}
use Rattle.std.proofs.lemmas.Bool.Decides.{Decides-int_eq}
use Rattle.device_reader.specs.declared.slot_accumulator.contacts.Contact.{Contact}
use Rattle.device_reader.specs.declared.slot_accumulator.slots.Row.{Row}
use Rattle.device_reader.specs.SlotAccumulator.Contacts.{IsBefore, IsBeforeAll, AreContacts, Joins, has_tracking}
use Rattle.device_reader.specs.SlotAccumulator.SlotContacts.{lower_has, holds, has_palm_tool, holds_palm, palm_below, contact, contacts_of, is_palm, no_row, row_in}
use Rattle.device_reader.specs.SlotAccumulator.SlotValues.{current, is_abs, is_slot, row, value}
use Rattle.raw_events.specs.Packets.{is_report}
use Rattle.device_reader.specs.SlotAccumulator.Table.{is_kept}
use Rattle.raw_events.specs.declared.event.RawEvent.{RawEvent}

IsBeforeAll-append : (c : Contact) (cs : List Contact) (d : Contact) → IsBeforeAll c cs → IsBefore c d → IsBeforeAll c (cs ++ d ∷ [])
IsBeforeAll-append c [] d h b = (b, tt)
IsBeforeAll-append c (e ∷ es) d h b = (h.0, IsBeforeAll-append c es d h.1 b)

-- one more contact that joins the list
pub AreContacts-append : (cs : List Contact) (d : Contact) → AreContacts cs → Joins cs d → AreContacts (cs ++ d ∷ [])
AreContacts-append [] d h j = (j, tt, tt)
AreContacts-append (c ∷ cs) d h j = (h.0, IsBeforeAll-append c cs d h.1 j.0, AreContacts-append cs d h.2 j.1)

-- ---- slots in rising order

abbrev SlotsBelow : List Contact → ℕ → Type 0
SlotsBelow [] n = Unit {0}
SlotsBelow (c ∷ cs) n = (c.slot < n) × SlotsBelow cs n

below_next : (cs : List Contact) (n : ℕ) → SlotsBelow cs n → SlotsBelow cs (suc n)
below_next [] n h = tt
below_next (c ∷ cs) n h = (omega (arith, h.0), below_next cs n h.1)

below_push : (cs : List Contact) (n : ℕ) (d : Contact) → d.slot ≡ n → SlotsBelow cs n → SlotsBelow (cs ++ d ∷ []) (suc n)
below_push [] n d e h = (omega (arith, e), tt)
below_push (c ∷ cs) n d e h = (omega (arith, h.0), below_push cs n d e h.1)

slots_below : (rows : ℕ → Row) (palms : ℤ → Bool) (n : ℕ) → SlotsBelow (contacts_of rows palms n) n
slots_below rows palms zero = tt
slots_below rows palms (suc s) =
    elim (holds rows s) as (λ b. SlotsBelow (if b then contacts_of rows palms s ++ contact palms s (rows s) ∷ [] else contacts_of rows palms s) (suc s)) [
      | true ↦ below_push (contacts_of rows palms s) s (contact palms s (rows s)) refl (slots_below rows palms s)
      | false ↦ below_next (contacts_of rows palms s) s (slots_below rows palms s)
    ]

pub few : (rows : ℕ → Row) (palms : ℤ → Bool) (n : ℕ) → length (contacts_of rows palms n) ≤ n
few rows palms zero = omega arith
few rows palms (suc s) =
    elim (holds rows s) as (λ b. length (if b then contacts_of rows palms s ++ contact palms s (rows s) ∷ [] else contacts_of rows palms s) ≤ suc s) [
      | true ↦ omega (arith, length-append (contacts_of rows palms s) (contact palms s (rows s) ∷ []), few rows palms s)
      | false ↦ omega (arith, few rows palms s)
    ]

pub or_left : (a b : Bool) → (a || b) ≡ false → a ≡ false
or_left true b h = h
or_left false b h = refl

pub or_right : (a b : Bool) → (a || b) ≡ false → b ≡ false
or_right true b h = absurd (cc)
or_right false b h = h

joins_untracked : (cs : List Contact) (d : Contact) → pos 0 ≤ℤ d.tracking → SlotsBelow cs d.slot → has_tracking d.tracking cs ≡ false → Joins cs d
joins_untracked [] d z h f = z
joins_untracked (c ∷ cs) d z h f =
    let other : int_eq c.tracking d.tracking ≡ false = or_left (int_eq c.tracking d.tracking) (has_tracking d.tracking cs) f in
    let differs : c.tracking ≢ d.tracking = λ same. let yes_ : int_eq c.tracking d.tracking ≡ true = (Decides-int_eq c.tracking d.tracking).1 same in absurd (cc) in
    ((h.0, differs), joins_untracked cs d z h.1 (or_right (int_eq c.tracking d.tracking) (has_tracking d.tracking cs) f))

-- a slot whose tracking id no contact below has may join them
pub joins : (rows : ℕ → Row) (palms : ℤ → Bool) (s : ℕ) → int_le (pos 0) (rows s).tracking ≡ true → has_tracking (rows s).tracking (contacts_of rows palms s) ≡ false
    → Joins (contacts_of rows palms s) (contact palms s (rows s))
joins rows palms s z f = joins_untracked (contacts_of rows palms s) (contact palms s (rows s)) (search (rules, z)) (slots_below rows palms s) f

-- ---- a tracking id that is not negative is that of a contact below, where it is that of a slot below

tracked_or : (a b : Bool) → (a || (b || false)) ≡ (a || b)
tracked_or true b = refl
tracked_or false true = refl
tracked_or false false = refl

same_or : (a b : Bool) → (b ≡ true → a ≡ true) → a ≡ (a || b)
same_or true b h = refl
same_or false true h = h refl
same_or false false h = refl

held_back : (z low : Bool) → z ≡ true → (z && not low) ≡ false → low ≡ true
held_back true true z h = refl
held_back true false z h = absurd (cc)
held_back false low z h = absurd (cc)

tracked_at : (rows : ℕ → Row) (palms : ℤ → Bool) (s : ℕ) (t : ℤ) → int_le (pos 0) t ≡ true → (b : Bool) → holds rows s ≡ b
    → has_tracking t (contacts_of rows palms s) ≡ lower_has rows s t
    → has_tracking t (if b then contacts_of rows palms s ++ contact palms s (rows s) ∷ [] else contacts_of rows palms s) ≡ lower_has rows (suc s) t
tracked_at rows palms s t z true is before =
    list_any-append (λ (c : Contact). int_eq c.tracking t) (contacts_of rows palms s) (contact palms s (rows s) ∷ [])
    ∙ ap (λ a. a || (int_eq (rows s).tracking t || false)) before
    ∙ tracked_or (lower_has rows s t) (int_eq (rows s).tracking t)
tracked_at rows palms s t z false is before =
    before
    ∙ same_or (lower_has rows s t) (int_eq (rows s).tracking t) (λ h.
    let same : (rows s).tracking ≡ t = (Decides-int_eq (rows s).tracking t).0 h in
    ap (λ u. lower_has rows s u) (sym same)
    ∙ held_back (int_le (pos 0) (rows s).tracking) (lower_has rows s (rows s).tracking) (ap (λ u. int_le (pos 0) u) same ∙ z) is)

pub tracked_below : (rows : ℕ → Row) (palms : ℤ → Bool) (n : ℕ) (t : ℤ) → int_le (pos 0) t ≡ true → has_tracking t (contacts_of rows palms n) ≡ lower_has rows n t
tracked_below rows palms zero t z = refl
tracked_below rows palms (suc s) t z = tracked_at rows palms s t z (holds rows s) refl (tracked_below rows palms s t z)

and_same : (z a b : Bool) → (z ≡ true → a ≡ b) → (z && a) ≡ (z && b)
and_same true a b h = h refl
and_same false a b h = refl

-- the test that the code makes on the contacts so far
holds_test : (rows : ℕ → Row) (palms : ℤ → Bool) (s : ℕ)
    → (int_le (pos 0) (rows s).tracking && not (has_tracking (rows s).tracking (contacts_of rows palms s))) ≡ holds rows s
holds_test rows palms s =
    and_same (int_le (pos 0) (rows s).tracking) (not (has_tracking (rows s).tracking (contacts_of rows palms s))) (not (lower_has rows s (rows s).tracking))
    (λ z. ap not (tracked_below rows palms s (rows s).tracking z))

pub and_first : (a b : Bool) → (a && b) ≡ true → a ≡ true
and_first true b h = refl
and_first false b h = absurd (cc)

pub and_second : (a b : Bool) → (a && not b) ≡ true → b ≡ false
and_second true true h = absurd (cc)
and_second true false h = refl
and_second false b h = absurd (cc)

pub step_joins : (rows : ℕ → Row) (palms : ℤ → Bool) (s : ℕ) (cs : List Contact) → cs ≡ contacts_of rows palms s
    → (int_le (pos 0) (rows s).tracking && not (has_tracking (rows s).tracking cs)) ≡ true → Joins cs (contact palms s (rows s))
step_joins rows palms s cs are test =
    let z : int_le (pos 0) (rows s).tracking ≡ true = and_first (int_le (pos 0) (rows s).tracking) (not (has_tracking (rows s).tracking cs)) test in
    let new : has_tracking (rows s).tracking (contacts_of rows palms s) ≡ false =
    ap (λ xs. has_tracking (rows s).tracking xs) (sym are)
    ∙ and_second (int_le (pos 0) (rows s).tracking) (has_tracking (rows s).tracking cs) test in
    rw are (joins rows palms s z new)

pub step : (rows : ℕ → Row) (palms : ℤ → Bool) (s : ℕ) (cs : List Contact) → cs ≡ contacts_of rows palms s → (b : Bool)
    → b ≡ (int_le (pos 0) (rows s).tracking && not (has_tracking (rows s).tracking cs))
    → (if b then cs ++ contact palms s (rows s) ∷ [] else cs) ≡ contacts_of rows palms (suc s)
step rows palms s cs are b test =
    let is : b ≡ holds rows s = test ∙ ap (λ xs. int_le (pos 0) (rows s).tracking && not (has_tracking (rows s).tracking xs)) are ∙ holds_test rows palms s in
    rw (is, are) refl

-- ---- rows that agree hold the same contacts

lower_same : (f g : ℕ → Row) (n : ℕ) (t : ℤ) → ((s : ℕ) → s < n → f s ≡ g s) → lower_has f n t ≡ lower_has g n t
lower_same f g zero t h = refl
lower_same f g (suc s) t h = rw (h s (omega arith), lower_same f g s t (λ k lt. h k (omega arith))) refl

pub contacts_same : (f g : ℕ → Row) (p q : ℤ → Bool) (n : ℕ) → ((s : ℕ) → s < n → f s ≡ g s) → ((t : ℤ) → p t ≡ q t) → contacts_of f p n ≡ contacts_of g q n
contacts_same f g p q zero h k = refl
contacts_same f g p q (suc s) h k =
    rw (h s (omega arith), k (g s).tracking, lower_same f g s (g s).tracking (λ i lt. h i (omega arith)), contacts_same f g p q s (λ i lt. h i (omega arith)) k) refl

-- ---- palms

palm_here : (f g : ℕ → Row) (p q : ℤ → Bool) (s : ℕ) (t : ℤ) → ((i : ℕ) → i < suc s → f i ≡ g i) → ((i : ℤ) → p i ≡ q i)
    → holds_palm f p s t ≡ holds_palm g q s t
palm_here f g p q s t h k = rw (h s (omega arith), k t, lower_same f g s (g s).tracking (λ i lt. h i (omega arith))) refl

-- rows that agree hold the same palms
pub palms_same : (f g : ℕ → Row) (p q : ℤ → Bool) (n : ℕ) (t : ℤ) → ((s : ℕ) → s < n → f s ≡ g s) → ((i : ℤ) → p i ≡ q i)
    → palm_below f p n t ≡ palm_below g q n t
palms_same f g p q zero t h k = refl
palms_same f g p q (suc s) t h k = rw (palms_same f g p q s t (λ i lt. h i (omega arith)) k, palm_here f g p q s t h k) refl

-- the slots below one, looked through from the first
pub lower_any : (rows : List Row) (n : ℕ) (t : ℤ) → n ≤ length rows → lower_has (row_in rows) n t ≡ list_any (λ (r : Row). int_eq r.tracking t) (take n rows)
lower_any rows zero t le = refl
lower_any rows (suc n) t le =
    ap (λ b. b || int_eq (row_in rows n).tracking t) (lower_any rows n t (omega (arith, le)))
    ∙ sym (ap (λ xs. list_any (λ (r : Row). int_eq r.tracking t) xs) (take-suc rows n no_row (omega (arith, le)))
    ∙ list_any-append (λ (r : Row). int_eq r.tracking t) (take n rows) (row_in rows n ∷ [])
    ∙ tracked_or (list_any (λ (r : Row). int_eq r.tracking t) (take n rows)) (int_eq (row_in rows n).tracking t))

-- one more tracking id is kept
pub pushed_kept : (palms : List ℤ) (x t : ℤ) (after : List ℤ) → after ≡ palms ++ x ∷ [] → is_kept after t ≡ (is_kept palms t || int_eq x t)
pushed_kept palms x t after is =
    ap (λ xs. is_kept xs t) is
    ∙ list_any-append (λ y. int_eq y t) palms (x ∷ [])
    ∙ tracked_or (is_kept palms t) (int_eq x t)

no_more : (kept z q : Bool) → kept ≡ (kept || ((z && false) && q))
no_more true z q = refl
no_more false true q = refl
no_more false false q = refl

not_held : (kept q : Bool) (b : Bool) → b ≡ false → (if b then kept || true else kept) ≡ (kept || false)
not_held true q b h = rw h refl
not_held false q b h = rw h refl

and_last : (p z : Bool) → z ≡ false → (p && z) ≡ false
and_last true z h = h
and_last false z h = refl

unless : (kept b : Bool) → (if b then kept || false else kept) ≡ kept
unless true true = refl
unless true false = refl
unless false true = refl
unless false false = refl

where_palm : (kept b q : Bool) → b ≡ q → (if b then kept || true else kept) ≡ (kept || q)
where_palm true true q h = refl
where_palm true false q h = refl
where_palm false true q h = h
where_palm false false q h = h

and_true : (p : Bool) → (p && true) ≡ p
and_true true = refl
and_true false = refl

-- one slot more: `e` says that it has the tracking id, `z` that it holds a contact, `p` that this is a palm
pub palm_step : (kept e z p q b : Bool) → b ≡ (p && z) → (e ≡ true → p ≡ q) → (if b then kept || e else kept) ≡ (kept || ((z && e) && q))
palm_step kept true true p q b is same = where_palm kept b q (is ∙ and_true p ∙ same refl)
palm_step kept true false p q b is same = not_held kept q b (is ∙ and_last p false refl)
palm_step kept false z p q b is same = unless kept b ∙ no_more kept z q

-- the palms of the slots so far, and of one more
pub palms_next : (rows : List Row) (k : ℤ → Bool) (s : ℕ) (kept b : Bool) (t : ℤ) → s < length rows
    → b ≡ ((has_palm_tool (row_in rows s) || k (row_in rows s).tracking)
    && (int_le (pos 0) (row_in rows s).tracking && not (list_any (λ (r : Row). int_eq r.tracking (row_in rows s).tracking) (take s rows))))
    → kept ≡ palm_below (row_in rows) k s t
    → (if b then kept || int_eq (row_in rows s).tracking t else kept) ≡ palm_below (row_in rows) k (suc s) t
palms_next rows k s kept b t lt is before =
    let tool : Bool = has_palm_tool (row_in rows s) in
    palm_step kept (int_eq (row_in rows s).tracking t) (holds (row_in rows) s) (tool || k (row_in rows s).tracking) (tool || k t) b
    (is ∙ ap (λ x. (tool || k (row_in rows s).tracking) && (int_le (pos 0) (row_in rows s).tracking && not x)) (sym (lower_any rows s (row_in rows s).tracking (omega (arith, lt)))))
    (λ e. ap (λ u. tool || k u) ((Decides-int_eq (row_in rows s).tracking t).0 e))
    ∙ ap (λ x. x || holds_palm (row_in rows) k s t) before

pub none_kept : (palms : List ℤ) (t : ℤ) → length palms ≡ 0 → is_kept palms t ≡ false
none_kept [] t h = refl
none_kept (x ∷ xs) t h = absurd (omega (arith, h))

no_tool : (rows : List Row) (s : ℕ) → s < length rows → list_any (λ (r : Row). has_palm_tool r) rows ≡ false → has_palm_tool (row_in rows s) ≡ false
no_tool [] s lt none = absurd (omega (arith, lt))
no_tool (r ∷ rs) zero lt none = or_left (has_palm_tool r) (list_any (λ (q : Row). has_palm_tool q) rs) none
no_tool (r ∷ rs) (suc s) lt none =
    no_tool rs s (omega (arith, lt)) (or_right (has_palm_tool r) (list_any (λ (q : Row). has_palm_tool q) rs) none)

-- where no tool type is that of a palm and the contact was none before, it is none
pub none_palm : (rows : List Row) (k : ℤ → Bool) (n : ℕ) (t : ℤ) → n ≤ length rows → list_any (λ (r : Row). has_palm_tool r) rows ≡ false
    → k t ≡ false → palm_below (row_in rows) k n t ≡ false
none_palm rows k zero t le none before = refl
none_palm rows k (suc s) t le none before =
    ap (λ b. b || holds_palm (row_in rows) k s t) (none_palm rows k s t (omega (arith, le)) none before)
    ∙ and_last (holds (row_in rows) s && int_eq (row_in rows s).tracking t) (has_palm_tool (row_in rows s) || k t)
    (ap (λ b. b || k t) (no_tool rows s (omega (arith, le)) none) ∙ before)

-- an event that ends no packet makes no palm
pub palms_stay : (slots : ℕ) (past : List RawEvent) (e : RawEvent) (t : ℤ) → is_report e ≡ false → is_palm slots (e ∷ past) t ≡ is_palm slots past t
palms_stay slots past e t h = rw h refl

report_kind : (e : RawEvent) → is_report e ≡ true → e.kind ≡ 0
report_kind e h = eqb-true e.kind 0 (and_first (nat_eq e.kind 0) (nat_eq e.code 0) h)

-- a SYN_REPORT is no EV_ABS
pub report_abs : (code : ℕ) (e : RawEvent) → is_report e ≡ true → is_abs code e ≡ false
report_abs code e h = rw (report_kind e h) refl

pub report_current : (past : List RawEvent) (e : RawEvent) → is_report e ≡ true → current (e ∷ past) ≡ current past
report_current past e h = rw (report_abs 47 e h) refl

value_stays : (code : ℕ) (first : ℤ) (s : ℕ) (past : List RawEvent) (e : RawEvent) → is_abs code e ≡ false → value code first s (e ∷ past) ≡ value code first s past
value_stays code first s past e h = rw (and_last (is_slot (current past) s) (is_abs code e) h) refl

-- it writes to no slot
pub report_rows : (past : List RawEvent) (e : RawEvent) (s : ℕ) → is_report e ≡ true → row s (e ∷ past) ≡ row s past
report_rows past e s h i = record {
  tracking = value_stays 57 (negsuc 0) s past e (report_abs 57 e h) i;
  x = value_stays 53 (pos 0) s past e (report_abs 53 e h) i;
  y = value_stays 54 (pos 0) s past e (report_abs 54 e h) i;
  tool = value_stays 55 (pos 0) s past e (report_abs 55 e h) i;
}

-- it notes the palms
pub palms_noted : (rows : List Row) (k : ℤ → Bool) (n : ℕ) (past : List RawEvent) (e : RawEvent) (t : ℤ) → is_report e ≡ true → n ≤ length rows
    → ((s : ℕ) → s < n → row_in rows s ≡ row s past) → ((i : ℤ) → k i ≡ is_palm n past i)
    → palm_below (row_in (take n rows)) k (length (take n rows)) t ≡ is_palm n (e ∷ past) t
palms_noted rows k n past e t h le are kept =
    ap (λ m. palm_below (row_in (take n rows)) k m t) (length-take-le n rows le)
    ∙ palms_same (row_in (take n rows)) (λ s. row s past) k (λ i. is_palm n past i) n t
    (λ s lt. get_or-take n rows s no_row lt ∙ are s lt) kept
    ∙ sym (rw h refl)

-- ---- the contacts of slots are such a list

are_at : (rows : ℕ → Row) (palms : ℤ → Bool) (s : ℕ) (b : Bool) → holds rows s ≡ b → AreContacts (contacts_of rows palms s)
    → AreContacts (if b then contacts_of rows palms s ++ contact palms s (rows s) ∷ [] else contacts_of rows palms s)
are_at rows palms s true is before =
    AreContacts-append (contacts_of rows palms s) (contact palms s (rows s)) before (step_joins rows palms s (contacts_of rows palms s) refl (holds_test rows palms s ∙ is))
are_at rows palms s false is before = before

pub are_contacts : (rows : ℕ → Row) (palms : ℤ → Bool) (n : ℕ) → AreContacts (contacts_of rows palms n)
are_contacts rows palms zero = tt
are_contacts rows palms (suc s) = are_at rows palms s (holds rows s) refl (are_contacts rows palms s)
