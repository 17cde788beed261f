use Rattle.std.specs.Prelude.{◌≤◌, List, length}
use Rattle.std.proofs.Common.{sym, ◌∙◌, subst}
use Rattle.input_types.specs.declared.pointer.Pointer.{Pointer}
use Rattle.device_reader.specs.TouchMapper.Rising.{Rises}
use Rattle.device_reader.proofs.TouchMapper.Rising.{ends_item, walk_push, rises_skip, room_skip}
use Rattle.device_reader.proofs.TouchMapper.Walk.{kept_push, kept_pass}
use Rattle.device_reader.proofs.touch_mapper.lists.joined_kept.Goals.{then-is_down, else-is_down}
use Rattle.device_reader.proofs.touch_mapper.lists.joined_kept.Goals as goal

pub append-requires-clause-rises : goal.append-requires-clause-rises
append-requires-clause-rises c =
    ends_item c.loop-p.pointers c.args.above.now c.loop-p.p-index c.p-item.result c.loop-p.invariant.rises c.loop-p-test.true c.p-item.is

pub loop-p-preserved : goal.loop-p-preserved
loop-p-preserved c =
    elim c.if-is_down.branch [
      | then-is_down w ↦
          rw (w.pointers-is, w.append.ensures)
          (record {
            all = kept_push c.loop-p.pointers c.args.last.now c.args.above.now c.loop-p.p-index c.p-item.result c.loop-p-test.true c.p-item.is (sym c.is_down.ensures ∙ w.if-is_down.true) ∙ c.loop-p.invariant.all;
            room = subst (λ (xs : List Pointer). length xs ≤ 16) (sym (walk_push c.loop-p.pointers c.args.above.now c.loop-p.p-index c.p-item.result c.loop-p-test.true c.p-item.is)) c.loop-p.invariant.room;
            rises = subst Rises (sym (walk_push c.loop-p.pointers c.args.above.now c.loop-p.p-index c.p-item.result c.loop-p-test.true c.p-item.is)) c.loop-p.invariant.rises;
          })
      | else-is_down w ↦
          rw w.pointers-is
          (record {
            all = kept_pass c.loop-p.pointers c.args.last.now c.args.above.now c.loop-p.p-index c.p-item.result c.loop-p-test.true c.p-item.is (sym c.is_down.ensures ∙ w.if-is_down.false) ∙ c.loop-p.invariant.all;
            room = room_skip c.loop-p.pointers c.args.above.now c.loop-p.p-index c.p-item.result c.loop-p-test.true c.p-item.is c.loop-p.invariant.room;
            rises = rises_skip c.loop-p.pointers c.args.above.now c.loop-p.p-index c.p-item.result c.loop-p-test.true c.p-item.is c.loop-p.invariant.rises;
          })
    ]
