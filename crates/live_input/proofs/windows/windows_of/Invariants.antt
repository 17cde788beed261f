use Rattle.std.proofs.Common.{◌≡◌}
use Rattle.std.specs.Prelude.{map}
use Rattle.live_input.specs.Windows.{window_of}
use Rattle.live_input.proofs.windows.windows_of.Given as goal

abbrev pub invariant-loop-window : goal.invariant-loop-window
invariant-loop-window l = l.shown.items ≡ map window_of l.yielded
