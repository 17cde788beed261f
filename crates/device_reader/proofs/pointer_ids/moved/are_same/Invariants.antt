use Rattle.std.specs.Prelude.{◌≡◌, drop, length}
use Rattle.device_reader.specs.PointerIds.Following.{are_same}
use Rattle.device_reader.proofs.pointer_ids.moved.are_same.Given as goal

-- the fingers so far are the same
abbrev pub invariant-loop-i : goal.invariant-loop-i
invariant-loop-i l = record {
  long : length l.before ≡ length l.now;
  rest : are_same (drop l.i l.before) (drop l.i l.now) ≡ are_same l.before l.now;
}
