use Rattle.std.specs.Prelude.{◌≡◌, ◌≤◌, ◌++◌, drop, length}
use Rattle.device_reader.specs.TouchMapper.Rising.{Rises}
use Rattle.device_reader.specs.TouchMapper.Gesture.{kept}
use Rattle.device_reader.proofs.touch_mapper.lists.joined_kept.Given as goal

-- the pointers so far, with those that are left, rise, and with those that are kept of them are all that are kept
abbrev pub invariant-loop-p : goal.invariant-loop-p
invariant-loop-p l = record {
  all : l.pointers ++ kept l.last (drop l.p-index l.above) ≡ l.below ++ kept l.last l.above;
  room : length (l.pointers ++ drop l.p-index l.above) ≤ 16;
  rises : Rises (l.pointers ++ drop l.p-index l.above);
}
