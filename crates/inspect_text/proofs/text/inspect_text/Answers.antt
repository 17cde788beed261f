use Rattle.std.proofs.Common.{◌≡◌, ◌++◌, List, ap, ◌∙◌, sym, subst}
use Rattle.recording_counts.specs.declared.device.DeviceTally.{DeviceTally}
use Rattle.recording_counts.specs.Devices.{AllCounted}
use Rattle.recording_counts.specs.Moments.{span_of}
use Rattle.recording_counts.specs.Lines.{unknown_paths}
use Rattle.inspect_text.specs.CountedHints.{clock_hint, counts_hint, mark_hint}
use Rattle.inspect_text.specs.Inspected.{device_text, each_device, hint_text, inspected, late_steps_hint, lines_text, no_device_hint, paths_text, steps_text}
use Rattle.inspect_text.specs.Lines.{moments_line}
use Rattle.inspect_text.proofs.Growing.{grown, regroup_all}
use Rattle.inspect_text.proofs.text.inspect_text.Goals as goal

pub returns : goal.returns
returns c =
    λ devices past plans given lines read events.
    let text = c.args.text.now.items in
    let steps = c.args.steps.now in
    let keys = c.args.keys.now in
    let recording =
    lines_text devices past given ++ moments_line (span_of given) ++ each_device device_text 1 plans given ++ paths_text (unknown_paths devices past) in
    let hints = each_device hint_text 1 plans given in
    let counts = each_device counts_hint 1 plans given in
    let all = hints ++ counts ++ clock_hint given ++ mark_hint past in
    let late = late_steps_hint c.span-span.result steps in
    let span : c.span-span.result ≡ span_of given = c.span-span.ensures.value ∙ events.span_is in
    let tallies : AllCounted plans given c.devices.result.now =
    subst (λ (ts : List DeviceTally). AllCounted plans given ts) (sym c.devices.ensures) events.devices_counted in
    grown c.add_session_hints.result c.add_session_hints.new.text.items c.add_recording_hints.new.text.items
    (late ++ no_device_hint plans)
    (text ++ inspected devices past plans given steps keys)
    (c.add_session_hints.ensures plans given tallies)
    (ap (λ xs. xs ++ (late ++ no_device_hint plans))
    (c.in_ok-add_recording_hints.ensures devices past plans given lines events
    ∙ ap (λ xs. xs ++ all)
    (c.in_ok-add_bytes.ensures
    ∙ ap (λ xs. xs ++ keys)
    (c.in_ok-add_steps.ensures
    ∙ ap (λ xs. xs ++ steps_text c.span-span.result steps) (c.in_ok-add_recording.ensures devices past plans given (lines.sorted read) lines events))))
    ∙ regroup_all text recording (steps_text c.span-span.result steps) keys hints counts (clock_hint given) (mark_hint past) late (no_device_hint plans)
    ∙ ap (λ s. text ++ (recording ++ steps_text s steps ++ keys ++ hints ++ counts ++ clock_hint given ++ mark_hint past ++ late_steps_hint s steps ++ no_device_hint plans)) span)
