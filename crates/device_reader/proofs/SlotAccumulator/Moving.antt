-- The contacts of slots of which one has another position.
use Rattle.std.specs.Prelude.{◌≡◌, ◌≢◌, ℕ, zero, suc, ◌<◌, ◌≤◌, Bool, true, false, not, ◌&&◌, ℤ, pos, nat_eq, List, [], ◌∷◌, ◌++◌, length, map, set, ◌⊎◌, if◌then◌else◌, int_le}
use Rattle.std.proofs.Common.{sym, ◌∙◌, ap, refl, arith, eq-eqb, ne_eqb, inl, inr, get_or-set_same, get_or-set_other}
use Rattle.std.proofs.lemmas.Bool.{cases_eq}
use Rattle.std.proofs.lemmas.List.{map-append}
use Rattle.device_reader.specs.declared.slot_accumulator.contacts.Contact.{Contact}
use Rattle.device_reader.specs.declared.slot_accumulator.slots.Row.{Row}
use Rattle.device_reader.specs.SlotAccumulator.Contacts.{put_at}
use Rattle.device_reader.specs.SlotAccumulator.Changes.{Changes}
use Rattle.device_reader.specs.declared.slot_accumulator.change.Change.TheVariants.{Position}
use Rattle.device_reader.specs.SlotAccumulator.SlotContacts.{lower_has, holds, contact, contacts_of, row_in}
use Rattle.device_reader.specs.SlotAccumulator.SlotValues.{row_after}
use Rattle.device_reader.specs.SlotAccumulator.SlotContacts.{contacts_in, contacts_at, is_palm, SlotsStandFor}
use Rattle.device_reader.specs.SlotAccumulator.SlotValues.{row}
use Rattle.device_reader.specs.SlotAccumulator.Table.{Table, is_kept}
use Rattle.device_reader.proofs.SlotAccumulator.Listing.{contacts_same}
use Rattle.raw_events.specs.declared.event.RawEvent.{RawEvent}

other_stays : (c : Contact) (slot : ℕ) (x y : ℤ) → nat_eq c.slot slot ≡ false → put_at slot x y c ≡ c
other_stays c slot x y h = rw h refl

lower_tracks : (f g : ℕ → Row) (n : ℕ) (t : ℤ) → ((s : ℕ) → (f s).tracking ≡ (g s).tracking) → lower_has f n t ≡ lower_has g n t
lower_tracks f g zero t h = refl
lower_tracks f g (suc s) t h = rw (h s, lower_tracks f g s t h) refl

holds_same : (f g : ℕ → Row) (s : ℕ) → ((i : ℕ) → (f i).tracking ≡ (g i).tracking) → holds f s ≡ holds g s
holds_same f g s h =
    ap (λ t. int_le (pos 0) t && not (lower_has f s t)) (h s)
    ∙ ap (λ b. int_le (pos 0) (g s).tracking && not b) (lower_tracks f g s (g s).tracking h)

push_put : (slot : ℕ) (x y : ℤ) (cs : List Contact) (c : Contact) (b : Bool)
    → (if b then map (λ (d : Contact). put_at slot x y d) cs ++ put_at slot x y c ∷ [] else map (λ (d : Contact). put_at slot x y d) cs)
    ≡ map (λ (d : Contact). put_at slot x y d) (if b then cs ++ c ∷ [] else cs)
push_put slot x y cs c true = sym (map-append (λ (d : Contact). put_at slot x y d) cs (c ∷ []))
push_put slot x y cs c false = refl

put_all : (f g : ℕ → Row) (palms : ℤ → Bool) (slot : ℕ) (x y : ℤ) (n : ℕ) → ((s : ℕ) → (f s).tracking ≡ (g s).tracking)
    → ((s : ℕ) → contact palms s (f s) ≡ put_at slot x y (contact palms s (g s)))
    → contacts_of f palms n ≡ map (λ (c : Contact). put_at slot x y c) (contacts_of g palms n)
put_all f g palms slot x y zero h each = refl
put_all f g palms slot x y (suc s) h each =
    ap (λ b. if b then contacts_of f palms s ++ contact palms s (f s) ∷ [] else contacts_of f palms s) (holds_same f g s h)
    ∙ ap (λ xs. if holds g s then xs ++ contact palms s (f s) ∷ [] else xs) (put_all f g palms slot x y s h each)
    ∙ ap (λ c. if holds g s then map (λ (d : Contact). put_at slot x y d) (contacts_of g palms s) ++ c ∷ [] else map (λ (d : Contact). put_at slot x y d) (contacts_of g palms s)) (each s)
    ∙ push_put slot x y (contacts_of g palms s) (contact palms s (g s)) (holds g s)

tracking_kept : (r q : Row) (code : ℕ) (v : ℤ) → nat_eq code 57 ≡ false → r ≡ row_after code v q → r.tracking ≡ q.tracking
tracking_kept r q code v h is = ap (λ (p : Row). p.tracking) is ∙ (rw h refl)

tracks_by : (rows : List Row) (at s : ℕ) (r : Row) → at < length rows → r.tracking ≡ (row_in rows at).tracking → (s ≡ at) ⊎ (s ≢ at)
    → (row_in (set rows at r) s).tracking ≡ (row_in rows s).tracking
tracks_by rows at s r lt kept (inl here) =
    ap (λ (q : Row). q.tracking) (ap (λ i. row_in (set rows at r) i) here ∙ get_or-set_same rows at r _ lt)
    ∙ kept
    ∙ ap (λ i. (row_in rows i).tracking) (sym here)
tracks_by rows at s r lt kept (inr other) = ap (λ (q : Row). q.tracking) (get_or-set_other rows at s r _ other)

here_put : (palms : ℤ → Bool) (s at : ℕ) (r q : Row) → s ≡ at → q.tracking ≡ r.tracking → contact palms s r ≡ put_at at r.x r.y (contact palms s q)
here_put palms s at r q here same = rw (eq-eqb s at here, same) refl

row_by : (rows : List Row) (at s : ℕ) (r : Row) (palms : ℤ → Bool) → at < length rows → r.tracking ≡ (row_in rows at).tracking → (s ≡ at) ⊎ (s ≢ at)
    → contact palms s (row_in (set rows at r) s) ≡ put_at at r.x r.y (contact palms s (row_in rows s))
row_by rows at s r palms lt kept (inl here) =
    ap (λ (q : Row). contact palms s q) (ap (λ i. row_in (set rows at r) i) here ∙ get_or-set_same rows at r _ lt)
    ∙ here_put palms s at r (row_in rows s) here (ap (λ i. (row_in rows i).tracking) here ∙ sym kept)
row_by rows at s r palms lt kept (inr other) =
    ap (λ (q : Row). contact palms s q) (get_or-set_other rows at s r _ other)
    ∙ sym (other_stays (contact palms s (row_in rows s)) at r.x r.y (ne_eqb s at other))

-- an event that is no tracking id moves the contact of its slot, where there is one
pub written_put : (rows : List Row) (at : ℕ) (r : Row) (code : ℕ) (v : ℤ) (palms : ℤ → Bool) (n : ℕ) → at < length rows → nat_eq code 57 ≡ false
    → r ≡ row_after code v (row_in rows at)
    → contacts_of (row_in (set rows at r)) palms n ≡ map (λ (c : Contact). put_at at r.x r.y c) (contacts_of (row_in rows) palms n)
written_put rows at r code v palms n lt other is =
    let kept : r.tracking ≡ (row_in rows at).tracking = tracking_kept r (row_in rows at) code v other is in
    put_all (row_in (set rows at r)) (row_in rows) palms at r.x r.y n
    (λ s. tracks_by rows at s r lt kept (cases_eq s at))
    (λ s. row_by rows at s r palms lt kept (cases_eq s at))

-- only the contact of the slot is elsewhere, and only the row of the slot is another one
pub written_changes : (slots : ℕ) (current : ℤ) (rows : List Row) (palms : List ℤ) (at : ℕ) (r : Row) (code : ℕ) (v : ℤ) → at < 16 → length rows ≡ 16
    → nat_eq code 57 ≡ false → r ≡ row_after code v (row_in rows at)
    → Changes (Position at) (record { slots = slots; current = current; rows = rows; palms = palms })
    (record { slots = slots; current = current; rows = set rows at r; palms = palms })
written_changes slots current rows palms at r code v low whole other is =
    let inside : at < length rows = omega (arith, low, whole) in (
      low,
      written_put rows at r code v (λ t. is_kept palms t) slots inside other is
          ∙ ap (λ (q : Row). map (λ (c : Contact). put_at at q.x q.y c) (contacts_of (row_in rows) (λ t. is_kept palms t) slots))
          (sym (get_or-set_same rows at r _ inside)),
      λ k ne. get_or-set_other rows at k r _ ne,
    )

-- ---- slots that hold nothing

not_held : (z low : Bool) → z ≡ false → (z && not low) ≡ false
not_held true low h = absurd (cc)
not_held false low h = refl

-- slots whose tracking ids are negative hold no contact
pub none_held : (rows : ℕ → Row) (palms : ℤ → Bool) (n : ℕ) → ((s : ℕ) → s < n → int_le (pos 0) (rows s).tracking ≡ false) → contacts_of rows palms n ≡ []
none_held rows palms zero h = refl
none_held rows palms (suc s) h =
    ap (λ b. if b then contacts_of rows palms s ++ contact palms s (rows s) ∷ [] else contacts_of rows palms s)
    (not_held (int_le (pos 0) (rows s).tracking) (lower_has rows s (rows s).tracking) (h s (omega arith)))
    ∙ none_held rows palms s (λ i lt. h i (omega (arith, lt)))

-- the contacts that a table holds are those after the events that it stands for
pub contacts_stand : (t : Table) (past : List RawEvent) → t.slots ≤ 16 → SlotsStandFor past t → contacts_in t ≡ contacts_at t.slots past
contacts_stand t past le h =
    contacts_same (row_in t.rows) (λ s. row s past) (λ i. is_kept t.palms i) (λ i. is_palm t.slots past i) t.slots
    (λ s lt. h.rows_are s (omega (arith, lt, le))) h.palms_are
