-- The contacts that slots hold are those of the places, in rising slot.
use Rattle.std.specs.Prelude.{◌≡◌, ℕ, zero, suc, ◌+◌, Bool, true, false, not, ◌&&◌, ◌||◌, ℤ, pos, negsuc, List, [], ◌∷◌, ◌++◌, length, int_le, if◌then◌else◌, Option, Some, None}
use Rattle.std.specs.Ordering.{int_eq}
use Rattle.std.proofs.Common.{sym, ◌∙◌, ap, subst, refl, arith, append_assoc, add-one}
use Rattle.std.proofs.lemmas.List.{append-nil}
use Rattle.std.proofs.lemmas.Bool.{le-leb}
use Rattle.raw_events.specs.declared.event.RawEvent.{RawEvent}
use Rattle.device_reader.specs.declared.slot_accumulator.contacts.Contact.{Contact}
use Rattle.device_reader.specs.declared.slot_accumulator.slots.Row.{Row}
use Rattle.device_reader.specs.SlotAccumulator.SlotValues.{row}
use Rattle.device_reader.specs.SlotAccumulator.SlotContacts.{lower_has, holds, contact, contacts_of, contacts_at, is_palm}
use Rattle.device_reader.specs.PointerIds.PointerIds.{fingers}
use Rattle.touch_writer.specs.declared.place.Place.{Place}
use Rattle.touch_writer.specs.declared.place.Touch.{Touch}
use Rattle.touch_writer.specs.Places.{tracking, tracking_of}
use Rattle.touch_writer_cooks.proofs.Rows.{row_of}
use Rattle.touch_writer_cooks.proofs.Packets.{AreRows}
use Rattle.touch_writer_cooks.proofs.Tracks.{IsUsed, AreUsed, Differs, DifferAll, TrackOnce}

-- the contact that slot `s` holds, if it holds one
abbrev pub contact_in : ℕ → Place → Option Touch → List Contact
contact_in s p None = []
contact_in s p (Some t) = record { slot = s; tracking = t.tracking; x = p.x; y = p.y; palm = false } ∷ []

-- the contacts that the slots from `s` on hold
abbrev pub contacts_in : ℕ → List Place → List Contact
contacts_in s [] = []
contacts_in s (p ∷ ps) = contact_in s p p.holds ++ contacts_in (s + 1) ps

pub all_fingers_at : (s : ℕ) (p : Place) (o : Option Touch) (rest : List Contact) → fingers rest ≡ rest → fingers (contact_in s p o ++ rest) ≡ contact_in s p o ++ rest
all_fingers_at s p None rest h = h
all_fingers_at s p (Some t) rest h = ap (λ cs. record { slot = s; tracking = t.tracking; x = p.x; y = p.y; palm = false } ∷ cs) h

pub all_fingers : (s : ℕ) (ps : List Place) → fingers (contacts_in s ps) ≡ contacts_in s ps
all_fingers s [] = refl
all_fingers s (p ∷ ps) = all_fingers_at s p p.holds (contacts_in (s + 1) ps) (all_fingers (s + 1) ps)

-- no slot below `s` has the tracking id of the contact that is held here
abbrev IsHigher : (ℕ → Row) → ℕ → Option Touch → Type 0
IsHigher rows s None = Unit {0}
IsHigher rows s (Some t) = lower_has rows s t.tracking ≡ false

abbrev AreHigher : (ℕ → Row) → ℕ → List Place → Type 0
AreHigher rows s [] = Unit {0}
AreHigher rows s (p ∷ ps) = IsHigher rows s p.holds × AreHigher rows s ps

higher_first_at : (rows : ℕ → Row) (o : Option Touch) → IsHigher rows zero o
higher_first_at rows None = tt
higher_first_at rows (Some t) = refl

higher_first : (rows : ℕ → Row) (ps : List Place) → AreHigher rows zero ps
higher_first rows [] = tt
higher_first rows (p ∷ ps) = (higher_first_at rows p.holds, higher_first rows ps)

higher_next_at : (rows : ℕ → Row) (s : ℕ) (k : ℤ) (o : Option Touch) → (rows s).tracking ≡ k → Differs k o → IsHigher rows s o → IsHigher rows (suc s) o
higher_next_at rows s k None is d h = tt
higher_next_at rows s k (Some t) is d h =
    ap (λ b. b || int_eq (rows s).tracking t.tracking) h ∙ ap (λ v. int_eq v t.tracking) is ∙ d

higher_next : (rows : ℕ → Row) (s : ℕ) (k : ℤ) (ps : List Place) → (rows s).tracking ≡ k → DifferAll k ps → AreHigher rows s ps → AreHigher rows (suc s) ps
higher_next rows s k [] is d h = tt
higher_next rows s k (p ∷ ps) is d h = (higher_next_at rows s k p.holds is d.0 h.0, higher_next rows s k ps is d.1 h.1)

-- one slot more
one_more : (rows : ℕ → Row) (palms : ℤ → Bool) (s used : ℕ) (p : Place) (o : Option Touch) → p.holds ≡ o → rows s ≡ row_of p → IsUsed used o → IsHigher rows s o
    → ((t : ℤ) → palms t ≡ false) → contacts_of rows palms s ++ contact_in s p o ≡ contacts_of rows palms (suc s)
one_more rows palms s used p None is here u h none =
    let track : (rows s).tracking ≡ negsuc 0 = ap (λ (r : Row). r.tracking) here ∙ ap (λ o. tracking_of o) is in
    let gone : holds rows s ≡ false = ap (λ v. int_le (pos 0) v && not (lower_has rows s v)) track in
    append-nil (contacts_of rows palms s)
    ∙ sym (ap (λ b. if b then contacts_of rows palms s ++ contact palms s (rows s) ∷ [] else contacts_of rows palms s) gone)
one_more rows palms s used p (Some t) is here u h none =
    let track : (rows s).tracking ≡ t.tracking = ap (λ (r : Row). r.tracking) here ∙ ap (λ o. tracking_of o) is in
    let there : holds rows s ≡ true =
    ap (λ v. int_le (pos 0) v && not (lower_has rows s v)) track
    ∙ ap (λ b. int_le (pos 0) t.tracking && not b) h
    ∙ ap (λ v. int_le (pos 0) v && true) u.1
    ∙ ap (λ b. b && true) (le-leb 0 u.0 (omega arith)) in
    let same : contact palms s (rows s) ≡ record { slot = s; tracking = t.tracking; x = p.x; y = p.y; palm = false } =
    ap (λ r. contact palms s r) here
    ∙ ap (λ v. record { slot = s; tracking = v; x = p.x; y = p.y; palm = palms v }) (ap (λ o. tracking_of o) is)
    ∙ ap (λ b. record { slot = s; tracking = t.tracking; x = p.x; y = p.y; palm = b }) (none t.tracking) in
    ap (λ c. contacts_of rows palms s ++ c ∷ []) (sym same)
    ∙ sym (ap (λ b. if b then contacts_of rows palms s ++ contact palms s (rows s) ∷ [] else contacts_of rows palms s) there)

same_count : (past : List RawEvent) (palms : ℤ → Bool) (a b : ℕ) → a ≡ b → contacts_of (λ k. row k past) palms a ≡ contacts_of (λ k. row k past) palms b
same_count past palms a b e = ap (λ n. contacts_of (λ k. row k past) palms n) e

all_more : (past : List RawEvent) (palms : ℤ → Bool) (s used : ℕ) (ps : List Place) → AreRows past s ps → AreUsed used ps → TrackOnce ps
    → AreHigher (λ k. row k past) s ps → ((t : ℤ) → palms t ≡ false)
    → contacts_of (λ k. row k past) palms s ++ contacts_in s ps ≡ contacts_of (λ k. row k past) palms (s + length ps)
all_more past palms s used [] rows u once h none =
    append-nil (contacts_of (λ k. row k past) palms s) ∙ same_count past palms s (s + 0) (omega arith)
all_more past palms s used (p ∷ ps) rows u once h none =
    let step : contacts_of (λ k. row k past) palms s ++ contact_in s p p.holds ≡ contacts_of (λ k. row k past) palms (s + 1) =
    one_more (λ k. row k past) palms s used p p.holds refl rows.0 u.0 h.0 none ∙ ap (λ n. contacts_of (λ k. row k past) palms n) (sym (add-one s)) in
    let up : AreHigher (λ k. row k past) (s + 1) ps =
    subst (λ n. AreHigher (λ k. row k past) n ps) (sym (add-one s))
    (higher_next (λ k. row k past) s (tracking p) ps (ap (λ (r : Row). r.tracking) rows.0) once.0 h.1) in
    sym (append_assoc (contacts_of (λ k. row k past) palms s) (contact_in s p p.holds) (contacts_in (s + 1) ps))
    ∙ ap (λ cs. cs ++ contacts_in (s + 1) ps) step
    ∙ all_more past palms (s + 1) used ps rows.1 u.1 once.1 up none
    ∙ same_count past palms (s + 1 + length ps) (s + length (p ∷ ps)) (omega arith)

pub contacts_are : (past : List RawEvent) (slots used : ℕ) (ps : List Place) → length ps ≡ slots → AreRows past 0 ps → AreUsed used ps → TrackOnce ps
    → ((t : ℤ) → is_palm slots past t ≡ false) → contacts_at slots past ≡ contacts_in 0 ps
contacts_are past slots used ps len rows u once none =
    sym (all_more past (λ t. is_palm slots past t) 0 used ps rows u once (higher_first (λ k. row k past) ps) none
    ∙ same_count past (λ t. is_palm slots past t) (0 + length ps) slots (omega (arith, len)))
