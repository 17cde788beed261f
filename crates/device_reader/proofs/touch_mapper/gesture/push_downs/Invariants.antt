use Rattle.std.specs.Prelude.{◌≡◌, ◌≤◌, ◌+◌, ◌-◌, ◌++◌, [], drop, length, map, vec_len, vec_capacity}
use Rattle.input_types.specs.declared.motion.Motion.{Motion}
use Rattle.input_types.specs.declared.message.Args.{Args}
use Rattle.input_types.specs.declared.message.Args.TheVariants.{Motion as MotionArgs}
use Rattle.device_reader.specs.TouchMapper.Gesture.{as_args}
use Rattle.device_reader.specs.TouchMapper.Gesture.{downs}
use Rattle.device_reader.proofs.touch_mapper.gesture.push_downs.Given as goal

-- the motions so far, with those of the pointers that are left, are all, and there is room for as many as pointers are
-- left
abbrev pub invariant-loop-i : goal.invariant-loop-i
invariant-loop-i l = record {
  all : l.given.items ++ as_args (downs l.device l.last l.below (drop l.i l.pointers))
      ≡ l.initial.given.items ++ as_args (downs l.device l.last [] l.pointers);
  whole : l.below ++ drop l.i l.pointers ≡ l.pointers;
  few : vec_len l.given + (length l.pointers - l.i) ≤ vec_len l.initial.given + length l.pointers;
  capacity : vec_capacity l.initial.given ≤ vec_capacity l.given;
}
