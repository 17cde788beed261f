use Rattle.std.proofs.Common.{◌≡◌, take}
use Rattle.live_input.specs.Limit.{put_in}
use Rattle.live_input.proofs.limit.copies_with.Given as goal

abbrev pub invariant-loop-window : goal.invariant-loop-window
invariant-loop-window l = l.rows.items ≡ put_in l.channel l.info (take l.window-index l.windows)
