use Rattle.std.specs.Prelude.{◌≡◌, ◌+◌, [], ◌∷◌, ◌++◌, length, map, drop}
use Rattle.std.proofs.Common.{sym, ◌∙◌, ap, arith}
use Rattle.input_types.specs.declared.motion.Motion.{Motion}
use Rattle.input_types.specs.declared.message.Args.{Args}
use Rattle.input_types.specs.declared.message.Args.TheVariants.{Motion as MotionArgs}
use Rattle.device_reader.specs.TouchMapper.Gesture.{as_args}
use Rattle.device_reader.specs.TouchMapper.Gesture.{kept, down, downs}
use Rattle.device_reader.proofs.TouchMapper.Rising.{ends_item, walk_push}
use Rattle.device_reader.proofs.TouchMapper.Walk.{downs_pass, downs_push}
use Rattle.device_reader.proofs.touch_mapper.gesture.push_downs.Goals.{then-not-is_down, else-not-is_down}
use Rattle.device_reader.proofs.touch_mapper.gesture.push_downs.Goals as goal

pub append-requires-clause-rises : goal.append-requires-clause-rises
append-requires-clause-rises c =
    ends_item c.loop-i.below c.in_use-pointers.result.now c.loop-i.i c.index-pointers-i.result (rw c.loop-i.invariant.whole c.in_use-pointers.ensures.rises) c.loop-i-test.true c.index-pointers-i.is

pub loop-i-preserved : goal.loop-i-preserved
loop-i-preserved c =
    elim c.if-not-is_down.branch [
      | then-not-is_down w ↦
          let said : w.down.result ≡ down c.args.device (length c.loop-i.below) ((c.loop-i.below ++ c.index-pointers-i.result ∷ []) ++ kept c.args.last.now (drop (c.loop-i.i + 1) c.in_use-pointers.result.now)) =
          w.down.ensures
          ∙ ap (λ n. down c.args.device n w.joined_kept-all.result) c.len-index.ensures.value
          ∙ ap (λ ps. down c.args.device (length c.loop-i.below) ps)
          (w.joined_kept-all.ensures
          ∙ ap (λ xs. xs ++ kept c.args.last.now w.split_at.result.1.now) c.append.ensures
          ∙ ap (λ ys. (c.loop-i.below ++ c.index-pointers-i.result ∷ []) ++ kept c.args.last.now ys) w.split_at.ensures.back) in
          rw (w.given-is, c.append.ensures)
          (record {
            all = ap (λ ms. ms ++ as_args (downs c.args.device c.args.last.now (c.loop-i.below ++ c.index-pointers-i.result ∷ []) (drop (c.loop-i.i + 1) c.in_use-pointers.result.now)))
                (w.put.ensures.items ∙ ap (λ m. c.loop-i.given.items ++ MotionArgs m ∷ []) said)
                ∙ downs_push (λ (m : Motion). MotionArgs m) c.loop-i.given.items c.args.device c.args.last.now c.loop-i.below c.in_use-pointers.result.now c.loop-i.i c.index-pointers-i.result c.loop-i-test.true c.index-pointers-i.is (sym c.is_down.ensures ∙ w.if-not-is_down.true)
                ∙ c.loop-i.invariant.all;
            whole = walk_push c.loop-i.below c.in_use-pointers.result.now c.loop-i.i c.index-pointers-i.result c.loop-i-test.true c.index-pointers-i.is ∙ c.loop-i.invariant.whole;
            few = omega (arith, c.loop-i.invariant.few, w.put.ensures.len, c.loop-i-test.true);
            capacity = omega (arith, c.loop-i.invariant.capacity, w.put.ensures.room);
          })
      | else-not-is_down w ↦
          rw (w.given-is, c.append.ensures)
          (record {
            all = downs_pass (λ (m : Motion). MotionArgs m) c.loop-i.given.items c.args.device c.args.last.now c.loop-i.below c.in_use-pointers.result.now c.loop-i.i c.index-pointers-i.result c.loop-i-test.true c.index-pointers-i.is (sym c.is_down.ensures ∙ w.if-not-is_down.false) ∙ c.loop-i.invariant.all;
            whole = walk_push c.loop-i.below c.in_use-pointers.result.now c.loop-i.i c.index-pointers-i.result c.loop-i-test.true c.index-pointers-i.is ∙ c.loop-i.invariant.whole;
            few = omega (arith, c.loop-i.invariant.few);
            capacity = c.loop-i.invariant.capacity;
          })
    ]
