use Rattle.std.proofs.Common.{◌≡◌, ◌++◌, take, drop, replicate}
use Rattle.plain_calls.proofs.screens.displays.Given as goal

abbrev pub invariant-loop-i : goal.invariant-loop-i
invariant-loop-i l = record {
  written : l.displays ≡ take l.i l.numbers ++ drop l.i (replicate 8 0);
}
