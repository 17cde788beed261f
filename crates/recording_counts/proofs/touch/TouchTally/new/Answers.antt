-- Without events nothing is counted.
use Rattle.std.specs.Prelude.{ℕ, []}
use Rattle.std.proofs.Common.{ap, sym, subst}
use Rattle.recording_counts.specs.declared.touch.Ranges.{Ranges}
use Rattle.recording_counts.specs.Events.{is_touch_used}
use Rattle.recording_counts.specs.Touch.{TouchesAfter, ranges_of}
use Rattle.recording_counts.proofs.touch.TouchTally.new.Goals as goal

pub returns : goal.returns
returns c = λ plan same. record {
  ranges_are = sym same;
  touching_is = subst (λ (n : ℕ). TouchesAfter n [] c.new.result) (sym (ap (λ (r : Ranges). r.slots) same)) c.new.ensures;
  events_are = c.new-2.ensures is_touch_used;
  counts_are = c.new-3.ensures (ranges_of plan);
}
