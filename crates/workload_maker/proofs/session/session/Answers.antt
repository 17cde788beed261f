-- The parts make the session.
use Rattle.std.proofs.Common.{◌≡◌, Some, ap, map}
use Rattle.session_plan.specs.View.{channel_view, device_view}
use Rattle.workload_maker.proofs.WholeSession.{joined, valid}
use Rattle.workload_maker.proofs.session.session.Goals as goal

pub returns-clause-value : goal.returns-clause-value
returns-clause-value c =
    joined c.in_ok-displays.displays.items (map device_view c.in_ok-devices.devices.items) (map channel_view c.in_ok-channels.channels.items)
    c.in_ok-steps.steps.items c.zero.result (Some c.android.result)
    c.in_ok-displays.ensures c.in_ok-devices.ensures.value c.in_ok-channels.ensures.value c.in_ok-steps.ensures c.zero.ensures (ap Some c.android.ensures)

pub returns-clause-valid : goal.returns-clause-valid
returns-clause-valid c =
    valid (record {
      displays = c.in_ok-displays.displays;
      devices = c.in_ok-devices.devices;
      channels = c.in_ok-channels.channels;
      steps = c.in_ok-steps.steps;
      end = c.zero.result;
      repeats = Some c.android.result;
    })
    c.in_ok-displays.ensures c.in_ok-devices.ensures.valid c.in_ok-devices.ensures.len c.in_ok-channels.ensures.valid c.in_ok-channels.ensures.len
    c.in_ok-steps.ensures
