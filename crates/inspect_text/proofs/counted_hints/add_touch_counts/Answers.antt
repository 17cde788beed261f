use Rattle.std.proofs.Common.{◌++◌, ap, ap₂, ◌∙◌}
use Rattle.device_reader.specs.Cooked.{Touches}
use Rattle.recording_counts.specs.declared.events.EventCounts.{EventCounts}
use Rattle.recording_counts.specs.declared.touch.TouchCounts.{TouchCounts}
use Rattle.inspect_text.specs.CountedHints.{clamped_line, counts_hint, drops_line}
use Rattle.inspect_text.proofs.Growing.{grown, regroup_two}
use Rattle.inspect_text.proofs.counted_hints.add_touch_counts.Goals as goal

pub returns : goal.returns
returns c =
    λ plan past stands.
    let text = c.args.text.now.items in
    let device = c.args.device in
    grown c.add_drops.result c.add_drops.new.text.items c.add_clamped.new.text.items (drops_line device c.events.result.now.drops)
    (text ++ counts_hint device (Touches plan) past)
    c.add_drops.ensures
    (ap (λ xs. xs ++ drops_line device c.events.result.now.drops) c.in_ok-add_clamped.ensures
    ∙ ap₂ (λ (t : TouchCounts) (e : EventCounts). (text ++ clamped_line device t.clamped) ++ drops_line device e.drops)
    (c.counts.ensures plan past stands) (c.events.ensures plan past stands)
    ∙ regroup_two text _ _)
