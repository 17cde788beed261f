-- Where the ids differ, the motions are the ups, then the move, then the downs.
use Rattle.std.specs.Prelude.{ℕ, Bool, [], ◌++◌, map}
use Rattle.std.proofs.Common.{sym, ◌∙◌, ap}
use Rattle.bits32.specs.Set.{is_in}
use Rattle.input_types.specs.Gestures.{ids_of, same_ids}
use Rattle.input_types.specs.declared.motion.Motion.{Motion}
use Rattle.input_types.specs.declared.message.Args.{Args}
use Rattle.input_types.specs.declared.message.Args.TheVariants.{Motion as MotionArgs}
use Rattle.device_reader.specs.TouchMapper.Gesture.{as_args}
use Rattle.device_reader.specs.TouchMapper.Gesture.{ups, moves, downs}
use Rattle.device_reader.proofs.TouchMapper.Walk.{all_three}
use Rattle.device_reader.proofs.touch_mapper.gesture.gesture.Goals as goal

pub returns : goal.returns
returns c =
    let f : Motion → Args = λ m. MotionArgs m in
    let taken : ℕ → Bool = λ i. is_in i c.args.cancelled in
    all_three f c.args.device taken c.args.last.now c.args.now.now c.args.given.now.items c.push_ups.new.given.items c.push_move.new.given.items c.push_downs.new.given.items
    (sym (c.same_ids.ensures
    ∙ ap (λ xs. same_ids (ids_of xs) (ids_of c.as_slice-2.result.now)) c.as_slice.ensures.value
    ∙ ap (λ xs. same_ids (ids_of c.args.last.now) (ids_of xs)) c.as_slice-2.ensures.value)
    ∙ c.if-same_ids.false)
    (c.push_ups.ensures.items
    ∙ ap (λ xs. c.args.given.now.items ++ map f (ups c.args.device taken xs [] c.all_moved.result)) c.as_slice-3.ensures.value
    ∙ ap (λ xs. c.args.given.now.items ++ map f (ups c.args.device taken c.args.now.now [] xs)) c.all_moved.ensures)
    (c.push_move.ensures.items ∙ ap (λ xs. c.push_ups.new.given.items ++ map f (moves c.args.device xs c.args.now.now)) c.as_slice-4.ensures.value)
    (c.push_downs.ensures ∙ ap (λ xs. c.push_move.new.given.items ++ map f (downs c.args.device xs [] c.args.now.now)) c.as_slice-5.ensures.value)
