use Rattle.std.proofs.Common.{◌≡◌, take}
use Rattle.window_snapshot.proofs.snapshot.copies.Given as goal

abbrev pub invariant-loop-window : goal.invariant-loop-window
invariant-loop-window l = l.copied.items ≡ take l.window-index l.windows
