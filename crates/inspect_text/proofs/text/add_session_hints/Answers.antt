use Rattle.std.proofs.Common.{◌++◌, ap, ◌∙◌}
use Rattle.inspect_text.specs.Inspected.{late_steps_hint, no_device_hint}
use Rattle.inspect_text.proofs.Growing.{grown, regroup_two}
use Rattle.inspect_text.proofs.text.add_session_hints.Goals as goal

pub returns : goal.returns
returns c =
    λ plans given counted.
    let text = c.args.text.now.items in
    let late = late_steps_hint c.args.span.now c.args.steps.now in
    grown c.add_no_device.result c.add_no_device.new.text.items c.add_late_steps.new.text.items (no_device_hint plans)
    (text ++ (late ++ no_device_hint plans))
    (c.add_no_device.ensures plans given counted)
    (ap (λ xs. xs ++ no_device_hint plans) c.in_ok-add_late_steps.ensures ∙ regroup_two text late (no_device_hint plans))
