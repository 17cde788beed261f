use Rattle.std.proofs.Common.{◌≡◌, take}
use Rattle.live_input.specs.Limit.{walled}
use Rattle.live_input.proofs.limit.walled.Given as goal

abbrev pub invariant-loop-window : goal.invariant-loop-window
invariant-loop-window l = l.rows.items ≡ walled l.choked (take l.window-index l.windows)
