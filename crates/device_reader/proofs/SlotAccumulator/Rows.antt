-- What one event more does to a slot.
use Rattle.std.specs.Prelude.{◌≡◌, ◌≢◌, ℕ, ◌<◌, pos, false, List, ◌∷◌, length, set, ◌⊎◌}
use Rattle.std.proofs.Common.{sym, refl, ap, ◌∙◌, arith, eq-eqb, ne_eqb, inl, inr, get_or-set_same, get_or-set_other}
use Rattle.std.proofs.lemmas.Bool.{cases_eq}
use Rattle.raw_events.specs.declared.event.RawEvent.{RawEvent}
use Rattle.device_reader.specs.declared.slot_accumulator.slots.Row.{Row}
use Rattle.device_reader.specs.SlotAccumulator.SlotValues.{is_slot, current, row, row_after}
use Rattle.device_reader.specs.SlotAccumulator.SlotContacts.{row_in}

row-here : (past : List RawEvent) (e : RawEvent) (s : ℕ) → e.kind ≡ 3 → current past ≡ pos s → row s (e ∷ past) ≡ row_after e.code e.value (row s past)
row-here past e s k cur = rw (k, cur, eq-eqb s s refl) refl

row-other : (past : List RawEvent) (e : RawEvent) (s : ℕ) → is_slot (current past) s ≡ false → row s (e ∷ past) ≡ row s past
row-other past e s h = rw h refl

written_by : (past : List RawEvent) (e : RawEvent) (rows : List Row) (at : ℕ) (r : Row)
    → length rows ≡ 16 → at < 16 → e.kind ≡ 3 → current past ≡ pos at → r ≡ row_after e.code e.value (row_in rows at)
    → ((s : ℕ) → s < 16 → row_in rows s ≡ row s past)
    → (s : ℕ) → s < 16 → (s ≡ at) ⊎ (s ≢ at) → row_in (set rows at r) s ≡ row s (e ∷ past)
written_by past e rows at r whole lt k cur is before s low (inl here) =
    let inside : at < length rows = omega arith in
    ap (λ i. row_in (set rows at r) i) here
    ∙ get_or-set_same rows at r _ inside
    ∙ is
    ∙ ap (λ x. row_after e.code e.value x) (before at lt)
    ∙ sym (row-here past e at k cur)
    ∙ ap (λ i. row i (e ∷ past)) (sym here)
written_by past e rows at r whole lt k cur is before s low (inr other) =
    let there : at ≢ s = λ same. other (sym same) in
    get_or-set_other rows at s r _ other
    ∙ before s low
    ∙ sym (row-other past e s (rw cur (ne_eqb at s there)))

-- an EV_ABS event that is written to the current slot
pub written_there : (past : List RawEvent) (e : RawEvent) (rows : List Row) (at : ℕ) (r : Row)
    → length rows ≡ 16 → at < 16 → e.kind ≡ 3 → current past ≡ pos at → r ≡ row_after e.code e.value (row_in rows at)
    → ((s : ℕ) → s < 16 → row_in rows s ≡ row s past)
    → (s : ℕ) → s < 16 → row_in (set rows at r) s ≡ row s (e ∷ past)
written_there past e rows at r whole lt k cur is before s low =
    written_by past e rows at r whole lt k cur is before s low (cases_eq s at)
