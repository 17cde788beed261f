use Rattle.std.proofs.Common.{◌≡◌, ◌++◌, List, ap, ◌∙◌, sym, subst}
use Rattle.recording_counts.specs.declared.device.DeviceTally.{DeviceTally}
use Rattle.recording_counts.specs.Devices.{AllCounted}
use Rattle.inspect_text.specs.CountedHints.{clock_hint, clock_line, counts_hint, mark_hint, mark_line}
use Rattle.inspect_text.specs.Inspected.{each_device, hint_text}
use Rattle.inspect_text.proofs.Growing.{grown, regroup_four}
use Rattle.inspect_text.proofs.text.add_recording_hints.Goals as goal

pub returns : goal.returns
returns c =
    λ devices past plans given lines events.
    let text = c.args.text.now.items in
    let hints = each_device hint_text 1 plans given in
    let counts = each_device counts_hint 1 plans given in
    let tallies : AllCounted plans given c.devices.result.now =
    subst (λ (ts : List DeviceTally). AllCounted plans given ts) (sym c.devices.ensures) events.devices_counted in
    let others : AllCounted plans given c.devices-2.result.now =
    subst (λ (ts : List DeviceTally). AllCounted plans given ts) (sym c.devices-2.ensures) events.devices_counted in
    grown c.add_mark.result c.add_mark.new.text.items c.add_clock_back.new.text.items (mark_line c.args.lines.now.marked)
    (text ++ (hints ++ counts ++ clock_hint given ++ mark_hint past))
    c.add_mark.ensures
    (ap (λ b. c.add_clock_back.new.text.items ++ mark_line b) lines.marked_is
    ∙ ap (λ xs. xs ++ mark_hint past)
    (c.in_ok-add_clock_back.ensures
    ∙ ap (λ n. c.add_all_counts.new.text.items ++ clock_line n) (c.clock_back.ensures ∙ events.back_are)
    ∙ ap (λ xs. xs ++ clock_hint given)
    (c.in_ok-add_all_counts.ensures plans given others ∙ ap (λ xs. xs ++ counts) (c.in_ok-add_hints.ensures plans given tallies)))
    ∙ regroup_four text hints counts (clock_hint given) (mark_hint past))
