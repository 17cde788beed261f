use Rattle.std.specs.Prelude.{◌≡◌, ◌++◌, drop}
use Rattle.device_reader.specs.TouchMapper.Gesture.{moved_all}
use Rattle.device_reader.proofs.touch_mapper.lists.all_moved.Given as goal

-- the pointers so far, with those that are left, are all
abbrev pub invariant-loop-p : goal.invariant-loop-p
invariant-loop-p l = l.pointers ++ moved_all (drop l.p-index l.last) l.now ≡ moved_all l.last l.now
