-- One more window.
use Rattle.std.proofs.Common.{◌≡◌, ◌&&◌, arith, false}
use Rattle.std.proofs.lemmas.Grind.{common_steps}
use Rattle.window_snapshot.specs.Mask.{is_channel}
use Rattle.window_snapshot.specs.Named.{is_named}
use Rattle.session_plan.proofs.Snapshots.{first_twice_more}
use Rattle.session_plan.proofs.window.each_window.Goals as goal

pub loop-i-preserved : goal.loop-i-preserved
loop-i-preserved c =
    let new : (is_channel c.in_ok-window.field-0.channel && is_named c.loop-i.windows.items c.in_ok-window.field-0.channel) ≡ false
    = rw c.deref.ensures.value at c.in_ok-window.ensures.new in
    record {
      rest = grind (arith, common_steps);
      len = grind (arith, common_steps);
      distinct = rw c.in_ok-push.ensures.items (first_twice_more c.loop-i.windows.items c.in_ok-window.field-0 c.loop-i.invariant.distinct new);
    }
