use Rattle.std.specs.Prelude.{◌≡◌, ◌++◌, drop}
use Rattle.device_reader.proofs.touch_mapper.lists.joined.Given as goal

-- the pointers so far, with those that are left, are all
abbrev pub invariant-loop-p : goal.invariant-loop-p
invariant-loop-p l = l.pointers ++ drop l.p-index l.above ≡ l.below ++ l.above
