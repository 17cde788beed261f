-- Whether the tool type of a slot is that of a palm.
use Rattle.std.specs.Prelude.{◌≡◌, ℕ, zero, suc, ◌<◌, Bool, true, false, ◌||◌, ℤ, nat_eq, List, [], ◌∷◌, length, set, if◌then◌else◌}
use Rattle.std.specs.List.{list_any}
use Rattle.std.proofs.Common.{sym, ◌∙◌, ap, refl, arith}
use Rattle.device_reader.specs.declared.slot_accumulator.slots.Row.{Row}
use Rattle.device_reader.specs.SlotAccumulator.SlotContacts.{has_palm_tool, row_in}
use Rattle.device_reader.specs.SlotAccumulator.SlotValues.{row_after}

any_same : (rows : List Row) (at : ℕ) (r : Row) → at < length rows → has_palm_tool r ≡ has_palm_tool (row_in rows at)
    → list_any (λ (q : Row). has_palm_tool q) (set rows at r) ≡ list_any (λ (q : Row). has_palm_tool q) rows
any_same [] at r lt same = absurd (omega (arith, lt))
any_same (x ∷ xs) zero r lt same = ap (λ b. b || list_any (λ (q : Row). has_palm_tool q) xs) same
any_same (x ∷ xs) (suc n) r lt same = ap (λ b. has_palm_tool x || b) (any_same xs n r (omega (arith, lt)) same)

tool_kept : (code : ℕ) (v : ℤ) (r : Row) → nat_eq code 55 ≡ false → has_palm_tool (row_after code v r) ≡ has_palm_tool r
tool_kept code v r h = rw h refl

by_code : (tool whole before after : Bool) → (tool ≡ false → whole ≡ before) → after ≡ (if tool then whole else before) → whole ≡ after
by_code true whole before after h is = sym is
by_code false whole before after h is = h refl ∙ sym is

-- an event is written to a slot: only a tool type changes whether one is that of a palm
pub tool_written : (rows : List Row) (at : ℕ) (r : Row) (code : ℕ) (v : ℤ) (before after : Bool) → at < length rows
    → r ≡ row_after code v (row_in rows at) → list_any (λ (q : Row). has_palm_tool q) rows ≡ before
    → after ≡ (if nat_eq code 55 then list_any (λ (q : Row). has_palm_tool q) (set rows at r) else before)
    → list_any (λ (q : Row). has_palm_tool q) (set rows at r) ≡ after
tool_written rows at r code v before after lt is had said =
    by_code (nat_eq code 55) (list_any (λ (q : Row). has_palm_tool q) (set rows at r)) before after
    (λ other. any_same rows at r lt (ap (λ (q : Row). has_palm_tool q) is ∙ tool_kept code v (row_in rows at) other) ∙ had)
    said
