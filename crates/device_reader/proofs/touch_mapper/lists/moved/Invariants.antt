use Rattle.std.specs.Prelude.{◌≡◌, drop}
use Rattle.device_reader.specs.TouchMapper.Gesture.{moved}
use Rattle.device_reader.proofs.touch_mapper.lists.moved.Given as goal

-- the pointer is not among those so far
abbrev pub invariant-loop-p : goal.invariant-loop-p
invariant-loop-p l = moved (drop l.p-index l.now) l.pointer ≡ moved l.now l.pointer
