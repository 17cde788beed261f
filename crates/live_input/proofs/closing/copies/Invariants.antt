use Rattle.std.proofs.Common.{◌≡◌, take}
use Rattle.live_input.specs.Closing.{without}
use Rattle.live_input.proofs.closing.copies.Given as goal

abbrev pub invariant-loop-window : goal.invariant-loop-window
invariant-loop-window l = l.others.items ≡ without l.channel (take l.window-index l.windows)
