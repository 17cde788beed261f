-- A slot is noted exactly where it holds a palm.
use Rattle.std.specs.Prelude.{◌≡◌, ◌&&◌, ◌||◌, not, pos, int_le, true, false, take, length, [], ◌∷◌}
use Rattle.std.specs.List.{list_any}
use Rattle.std.specs.Ordering.{int_eq}
use Rattle.std.proofs.Common.{arith, sym, ◌∙◌, ap, add-one, length-append}
use Rattle.device_reader.specs.declared.slot_accumulator.slots.Row.{Row}
use Rattle.device_reader.specs.SlotAccumulator.Table.{is_kept}
use Rattle.device_reader.specs.SlotAccumulator.SlotContacts.{has_palm_tool, row_in}
use Rattle.device_reader.proofs.SlotAccumulator.Listing.{palms_next, pushed_kept}
use Rattle.device_reader.proofs.slot_accumulator.palm_slots.palms.Goals.{then-is_palm, else-is_palm}
use Rattle.device_reader.proofs.slot_accumulator.palm_slots.palms.Goals as goal

pub loop-slot-preserved : goal.loop-slot-preserved
loop-slot-preserved c =
    let row : Row = row_in c.args.rows.now c.loop-slot.slot in
    let test : c.is_palm.result ≡ ((has_palm_tool row || is_kept c.args.before.now row.tracking)
    && (int_le (pos 0) row.tracking && not (list_any (λ (r : Row). int_eq r.tracking row.tracking) (take c.loop-slot.slot c.args.rows.now)))) =
    c.is_palm.ensures
    ∙ ap (λ xs. (has_palm_tool row || is_kept c.args.before.now row.tracking)
    && (int_le (pos 0) row.tracking && not (list_any (λ (r : Row). int_eq r.tracking row.tracking) xs))) c.split_at.ensures.front in
    elim c.if-is_palm.branch [
      | then-is_palm w ↦ rw (w.palms-is, add-one c.loop-slot.slot) (record {
        kept = λ t. pushed_kept c.loop-slot.palms row.tracking t w.note.new.palms w.note.ensures
            ∙ palms_next c.args.rows.now (λ i. is_kept c.args.before.now i) c.loop-slot.slot (is_kept c.loop-slot.palms t) true t c.loop-slot-test.true
            (sym w.if-is_palm.true ∙ test) (c.loop-slot.invariant.kept t);
        few = omega (arith, ap (λ xs. length xs) w.note.ensures, length-append c.loop-slot.palms (row.tracking ∷ []), c.loop-slot.invariant.few);
      })
      | else-is_palm w ↦ rw (w.palms-is, add-one c.loop-slot.slot) (record {
        kept = λ t. palms_next c.args.rows.now (λ i. is_kept c.args.before.now i) c.loop-slot.slot (is_kept c.loop-slot.palms t) false t c.loop-slot-test.true
            (sym w.if-is_palm.false ∙ test) (c.loop-slot.invariant.kept t);
        few = omega (arith, c.loop-slot.invariant.few);
      })
    ]
