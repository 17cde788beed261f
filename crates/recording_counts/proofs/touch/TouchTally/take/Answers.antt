-- The contacts go on, and all is counted.
use Rattle.std.specs.Prelude.{◌∷◌}
use Rattle.std.proofs.Common.{ap, sym, ◌∙◌}
use Rattle.recording_counts.specs.declared.touch.Ranges.{Ranges}
use Rattle.recording_counts.specs.Events.{is_touch_used}
use Rattle.recording_counts.specs.Touch.{packet_at, touch_counts}
use Rattle.recording_counts.proofs.touch.TouchTally.take.Goals as goal

pub returns : goal.returns
returns c = λ plan past h. record {
  ranges_are = h.ranges_are;
  touching_is = c.take-packet.ensures.after plan.slots past h.touching_is;
  events_are = c.take.ensures is_touch_used past c.is_touch_used.ensures h.touching_is.void_is h.events_are;
  counts_are =
      c.take-2.ensures past h.touching_is.void_is
      (c.take-packet.ensures.packet plan.slots past h.touching_is ∙ ap (λ (r : Ranges). packet_at r.slots past c.args.event.now) (sym h.ranges_are))
      (h.counts_are ∙ ap (λ (r : Ranges). touch_counts r past) (sym h.ranges_are))
      ∙ ap (λ (r : Ranges). touch_counts r (c.args.event.now ∷ past)) h.ranges_are;
}
