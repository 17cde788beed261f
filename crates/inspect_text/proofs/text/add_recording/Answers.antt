use Rattle.std.proofs.Common.{◌≡◌, ◌++◌, List, filter, ap, ap₂, ◌∙◌, sym, subst}
use Rattle.recording_counts.specs.declared.device.DeviceTally.{DeviceTally}
use Rattle.recording_counts.specs.Devices.{AllCounted}
use Rattle.recording_counts.specs.Moments.{span_of}
use Rattle.recording_counts.specs.Counted.{counted}
use Rattle.recording_counts.specs.Lines.{is_blank_line, is_other_line, is_unknown_line, unknown_paths}
use Rattle.inspect_text.specs.Inspected.{device_text, each_device, lines_text, paths_text}
use Rattle.inspect_text.specs.Lines.{lines_line, moments_line}
use Rattle.inspect_text.proofs.Growing.{grown, regroup_four}
use Rattle.inspect_text.proofs.text.add_recording.Goals as goal

pub returns : goal.returns
returns c =
    λ devices past plans given sorts lines events.
    let text = c.args.text.now.items in
    let l = c.args.lines.now in
    let first = lines_text devices past given in
    let span = moments_line (span_of given) in
    let each = each_device device_text 1 plans given in
    let paths = paths_text (unknown_paths devices past) in
    let lines_are : lines_line l.lines l.blank l.other l.unknown c.events.result ≡ lines_text devices past given =
    ap₂ (λ x y. lines_line x y l.other l.unknown c.events.result) lines.lines_are sorts.blank_are
    ∙ ap₂ (λ x y. lines_line (counted past) (counted (filter (is_blank_line devices) past)) x y c.events.result) sorts.other_are sorts.unknown_are
    ∙ ap (λ n. lines_line (counted past) (counted (filter (is_blank_line devices) past)) (counted (filter (is_other_line devices) past))
    (counted (filter (is_unknown_line devices) past)) n) (c.events.ensures ∙ events.events_are) in
    let tallies : AllCounted plans given c.devices.result.now =
    subst (λ (ts : List DeviceTally). AllCounted plans given ts) (sym c.devices.ensures) events.devices_counted in
    grown c.add_paths.result c.add_paths.new.text.items c.add_devices.new.text.items paths (text ++ (first ++ span ++ each ++ paths))
    (c.add_paths.ensures (unknown_paths devices past) sorts.paths_stand)
    (ap (λ xs. xs ++ paths)
    (c.in_ok-add_devices.ensures plans given tallies
    ∙ ap (λ xs. xs ++ each)
    (c.in_ok-add_moments.ensures
    ∙ ap₂ (λ xs s. xs ++ moments_line s) (c.in_ok-add_lines.ensures ∙ ap (λ xs. text ++ xs) lines_are) (c.span.ensures.value ∙ events.span_is)))
    ∙ regroup_four text first span each paths)
