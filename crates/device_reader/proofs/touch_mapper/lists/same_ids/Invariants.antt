use Rattle.std.specs.Prelude.{◌≡◌, drop, length}
use Rattle.input_types.specs.Gestures.{ids_of, same_ids}
use Rattle.device_reader.proofs.touch_mapper.lists.same_ids.Given as goal

-- the ids so far are the same
abbrev pub invariant-loop-i : goal.invariant-loop-i
invariant-loop-i l = record {
  long : length l.a ≡ length l.b;
  rest : same_ids (ids_of (drop l.i l.a)) (ids_of (drop l.i l.b)) ≡ same_ids (ids_of l.a) (ids_of l.b);
}
