use Rattle.std.specs.Prelude.{◌≡◌, ◌≤◌, ◌+◌, ℕ, Bool, List, [], ◌∷◌, ◌++◌, length, map, drop}
use Rattle.std.proofs.Common.{sym, ◌∙◌, ap, subst, arith}
use Rattle.std.proofs.lemmas.List.{append-nil, at_drop_all}
use Rattle.bits32.specs.Set.{is_in}
use Rattle.input_types.specs.declared.pointer.Pointer.{Pointer}
use Rattle.input_types.specs.declared.motion.Motion.{Motion}
use Rattle.input_types.specs.declared.message.Args.{Args}
use Rattle.input_types.specs.declared.message.Args.TheVariants.{Motion as MotionArgs}
use Rattle.device_reader.specs.TouchMapper.Gesture.{as_args}
use Rattle.device_reader.specs.TouchMapper.Rising.{Rises}
use Rattle.device_reader.specs.TouchMapper.Gesture.{up, ups}
use Rattle.device_reader.proofs.TouchMapper.Rising.{ends_item, walk_push, rises_skip, room_skip}
use Rattle.device_reader.proofs.TouchMapper.Walk.{ups_pass, ups_push}
use Rattle.device_reader.proofs.touch_mapper.gesture.push_ups.Goals.{then-is_down, else-is_down}
use Rattle.device_reader.proofs.touch_mapper.gesture.push_ups.Goals as goal

pub append-requires-clause-rises : goal.append-requires-clause-rises
append-requires-clause-rises c =
    ends_item c.loop-i.below c.in_use-pointers.result.now c.loop-i.i c.index-pointers-i.result c.loop-i.invariant.rises c.loop-i-test.true c.index-pointers-i.is

pub loop-i-preserved : goal.loop-i-preserved
loop-i-preserved c =
    let taken : ℕ → Bool = λ i. is_in i c.args.cancelled in
    elim c.if-is_down.branch [
      | then-is_down w ↦
          rw (w.given-is, w.below-is, w.append.ensures)
          (record {
            all = ups_pass (λ (m : Motion). MotionArgs m) c.loop-i.given.items c.args.device taken c.args.now.now c.loop-i.below c.in_use-pointers.result.now c.loop-i.i c.index-pointers-i.result c.loop-i-test.true c.index-pointers-i.is (sym c.is_down.ensures ∙ w.if-is_down.true) ∙ c.loop-i.invariant.all;
            room = subst (λ (xs : List Pointer). length xs ≤ 16) (sym (walk_push c.loop-i.below c.in_use-pointers.result.now c.loop-i.i c.index-pointers-i.result c.loop-i-test.true c.index-pointers-i.is)) c.loop-i.invariant.room;
            rises = subst Rises (sym (walk_push c.loop-i.below c.in_use-pointers.result.now c.loop-i.i c.index-pointers-i.result c.loop-i-test.true c.index-pointers-i.is)) c.loop-i.invariant.rises;
            few = omega (arith, c.loop-i.invariant.few);
            capacity = c.loop-i.invariant.capacity;
          })
      | else-is_down w ↦
          let said : w.up.result ≡ up c.args.device (taken c.index-pointers-i.result.id) (length c.loop-i.below) (c.loop-i.below ++ drop c.loop-i.i c.in_use-pointers.result.now) =
          w.up.ensures
          ∙ ap (λ b. up c.args.device b w.len.result w.joined-all.result) w.is_cancelled.ensures
          ∙ ap (λ n. up c.args.device (taken c.index-pointers-i.result.id) n w.joined-all.result) w.len.ensures.value
          ∙ ap (λ ps. up c.args.device (taken c.index-pointers-i.result.id) (length c.loop-i.below) ps) (w.joined-all.ensures ∙ ap (λ ys. c.loop-i.below ++ ys) w.split_at.ensures.back) in
          rw (w.given-is, w.below-is)
          (record {
            all = ap (λ ms. ms ++ as_args (ups c.args.device taken c.args.now.now c.loop-i.below (drop (c.loop-i.i + 1) c.in_use-pointers.result.now)))
                (w.put.ensures.items ∙ ap (λ m. c.loop-i.given.items ++ MotionArgs m ∷ []) said)
                ∙ ups_push (λ (m : Motion). MotionArgs m) c.loop-i.given.items c.args.device taken c.args.now.now c.loop-i.below c.in_use-pointers.result.now c.loop-i.i c.index-pointers-i.result c.loop-i-test.true c.index-pointers-i.is (sym c.is_down.ensures ∙ w.if-is_down.false)
                ∙ c.loop-i.invariant.all;
            room = room_skip c.loop-i.below c.in_use-pointers.result.now c.loop-i.i c.index-pointers-i.result c.loop-i-test.true c.index-pointers-i.is c.loop-i.invariant.room;
            rises = rises_skip c.loop-i.below c.in_use-pointers.result.now c.loop-i.i c.index-pointers-i.result c.loop-i-test.true c.index-pointers-i.is c.loop-i.invariant.rises;
            few = omega (arith, c.loop-i.invariant.few, w.put.ensures.len, c.loop-i-test.true);
            capacity = omega (arith, c.loop-i.invariant.capacity, w.put.ensures.room);
          })
    ]

pub returns-clause-items : goal.returns-clause-items
returns-clause-items c =
    let f : Motion → Args = λ m. MotionArgs m in
    let taken : ℕ → Bool = λ i. is_in i c.args.cancelled in
    sym (at_drop_all (λ xs. c.loop-i.given.items ++ map f (ups c.args.device taken c.args.now.now c.loop-i.below xs)) c.in_use-pointers.result.now c.loop-i.i c.loop-i-test.false
    ∙ append-nil c.loop-i.given.items)
    ∙ c.loop-i.invariant.all
    ∙ ap (λ ps. c.args.given.now.items ++ map f (ups c.args.device taken c.args.now.now [] ps)) c.in_use-pointers.ensures.value
