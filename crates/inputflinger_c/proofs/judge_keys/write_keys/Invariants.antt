use Rattle.std.proofs.Common.{◌≡◌, ◌≤◌, ◌++◌, map, take, drop, length}
use Rattle.inputflinger_c.specs.Keys.{plain_key}
use Rattle.inputflinger_c.proofs.judge_keys.write_keys.Given as goal

abbrev pub invariant-loop-i : goal.invariant-loop-i
invariant-loop-i l = record {
  written : l.places ≡ map plain_key (take l.i l.keys) ++ drop l.i l.initial.places;
  room : length l.keys ≤ length l.initial.places;
}
