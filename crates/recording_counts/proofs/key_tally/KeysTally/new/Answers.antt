-- Without events no key is down.
use Rattle.std.proofs.Common.{refl, ap}
use Rattle.std.specs.BTreeMap.{is_at}
use Rattle.std.specs.List.{list_any}
use Rattle.std.specs.Ordering.{nat_cmp}
use Rattle.recording_counts.specs.Events.{is_keys_used}
use Rattle.recording_counts.proofs.key_tally.KeysTally.new.Goals as goal

pub returns : goal.returns
returns c = λ plan. record {
  void_is = refl;
  down_are = λ scan. ap (λ ks. list_any (is_at (nat_cmp scan)) ks) c.new.ensures.empty;
  events_are = c.new-2.ensures is_keys_used;
  counts_are = c.new-3.ensures;
}
