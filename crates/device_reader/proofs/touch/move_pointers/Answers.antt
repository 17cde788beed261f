-- One pointer after the other is put where its slot says.
use Rattle.std.specs.Prelude.{◌≡◌, ◌<◌, ◌≤◌, ℕ, Bool, true, List, length, get_or, set}
use Rattle.std.proofs.Common.{sym, ◌∙◌, ap, arith}
use Rattle.input_types.specs.declared.pointer.Pointer.{Pointer}
use Rattle.input_types.specs.Pointers.{unused as no_pointer}
use Rattle.device_reader.specs.declared.slot_accumulator.slots.Row.{Row}
use Rattle.device_reader.specs.SlotAccumulator.SlotContacts.{row_in}
use Rattle.device_reader.specs.declared.pointer_ids.assigned.Held.{Held}
use Rattle.device_reader.specs.PointerIds.Assigned.{unused}
use Rattle.device_reader.specs.PointerIds.Slots.{is_written, pointer_where}
use Rattle.device_reader.specs.TouchMapper.Cooking.{Cooking, pixel}
use Rattle.device_reader.specs.TouchMapper.Gesture.{placed_all}
use Rattle.device_reader.specs.TouchMapper.GestureState.{GestureState}
use Rattle.device_reader.proofs.Moves.{all_moved, many_placed, moved_next, rests_next}
use Rattle.device_reader.proofs.touch.move_pointers.Goals.{then-is_written, else-is_written}
use Rattle.device_reader.proofs.touch.move_pointers.Goals as goal

pub loop-i-preserved : goal.loop-i-preserved
loop-i-preserved c =
    let i : ℕ = c.loop-i.i in
    let d : ℕ = c.args.gestures.now.device in
    let k : Cooking = c.args.gestures.now.cook in
    let written : ℕ → Bool = λ s. is_written c.args.written s in
    let rows : ℕ → Row = row_in c.args.slots.now.rows in
    let s : ℕ = get_or c.args.fingers.now i 0 in
    let low : (hs : List Held) → c.args.gestures.now.last ≡ placed_all k hs → i < length hs =
    λ hs is. omega (arith, c.loop-i-test.true, c.len-i-end.ensures.value, ap (λ (ps : List Pointer). length ps) is, many_placed k hs) in
    elim c.if-is_written.branch [
      | then-is_written w ↦ λ hs slot is fs.
          w.gestures-is
          ∙ w.move_pointer.ensures
          ∙ ap (λ (g : GestureState). record { device = g.device; cook = g.cook; last = set g.last i (record { id = (get_or g.last i no_pointer).id; at = pixel g.cook w.row.result.now.x w.row.result.now.y }) })
          (c.loop-i.invariant hs slot is fs)
          ∙ ap (λ (ps : List Pointer). record { device = d; cook = k; last = ps })
          (moved_next k written rows slot i hs unused s w.row.result.now (low hs is) (fs i (low hs is)) (sym c.is_written.ensures ∙ w.if-is_written.true) w.row.ensures)
      | else-is_written w ↦ λ hs slot is fs.
          w.gestures-is
          ∙ c.loop-i.invariant hs slot is fs
          ∙ ap (λ (qs : List Held). record { device = d; cook = k; last = placed_all k qs })
          (rests_next written rows slot i hs unused s (low hs is) (fs i (low hs is)) (sym c.is_written.ensures ∙ w.if-is_written.false))
    ]

pub returns : goal.returns
returns c = λ hs slot is fs.
    let i : ℕ = c.loop-i.i in
    let k : Cooking = c.args.gestures.now.cook in
    let done : length hs ≤ i = omega (arith, c.loop-i-test.false, c.len-i-end.ensures.value, ap (λ (ps : List Pointer). length ps) is, many_placed k hs) in
    c.loop-i.invariant hs slot is fs
    ∙ ap (λ (qs : List Held). record { device = c.args.gestures.now.device; cook = k; last = placed_all k qs })
    (all_moved i (λ h. pointer_where (λ s. is_written c.args.written s) (row_in c.args.slots.now.rows) (slot h) h) hs done)
