use Rattle.std.specs.Prelude.{◌≡◌, ◌++◌, drop}
use Rattle.device_reader.specs.TouchMapper.Gesture.{placed_all}
use Rattle.device_reader.proofs.touch_mapper.lists.put_at_pixels.Given as goal

-- the pointers so far, with those that are left, are all
abbrev pub invariant-loop-h : goal.invariant-loop-h
invariant-loop-h l = l.pointers ++ placed_all l.cook (drop l.h-index l.held.pointers) ≡ placed_all l.cook l.held.pointers
