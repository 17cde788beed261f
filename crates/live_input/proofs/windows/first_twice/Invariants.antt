use Rattle.std.proofs.Common.{◌≡◌}
use Rattle.std.specs.Prelude.{map}
use Rattle.window_snapshot.specs.WindowList.{first_twice}
use Rattle.live_input.specs.Windows.{window_of}
use Rattle.live_input.proofs.Accepted.{left_at}
use Rattle.live_input.proofs.windows.first_twice.Given as goal

-- no channel stood before so far
abbrev pub invariant-loop-i : goal.invariant-loop-i
invariant-loop-i l = left_at l.windows l.i ≡ first_twice (map window_of l.windows)
