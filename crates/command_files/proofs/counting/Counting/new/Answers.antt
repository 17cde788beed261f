-- Nothing was read of a recording of the session's devices.
use Rattle.session_plan.specs.View.{plan_view}
use Rattle.command_files.specs.Cooked.{plans_of}
use Rattle.command_files.specs.Devices.{devices_of}
use Rattle.command_files.proofs.counting.Counting.new.Goals as goal

pub returns : goal.returns
returns c =
    let p = plan_view c.args.plan.now in
    c.new-2.ensures (devices_of p) (plans_of p) (rw c.in_ok-numbered_devices.ensures at c.in_ok-reader.ensures)
    (rw c.in_ok-numbered_devices-2.ensures at c.new-lines.ensures) (c.new-events.ensures (plans_of p) c.in_ok-readers_of.ensures c.in_ok-tallies_of.ensures)
