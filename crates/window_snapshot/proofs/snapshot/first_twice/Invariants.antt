use Rattle.std.proofs.Common.{◌≡◌, take, drop}
use Rattle.window_snapshot.specs.WindowList.{first_twice, twice_after}
use Rattle.window_snapshot.proofs.snapshot.first_twice.Given as goal

-- no channel stood before so far
abbrev pub invariant-loop-i : goal.invariant-loop-i
invariant-loop-i l = twice_after (take l.i l.windows) (drop l.i l.windows) ≡ first_twice l.windows
