use Rattle.std.proofs.Common.{◌≡◌, ◌∙◌, true, false, rules}
use Rattle.std.specs.Prelude.{int_le}
use Rattle.std.specs.List.Sorted.{IsPartitionPoint}
use Rattle.std.proofs.lemmas.Int.{to_z-of_z}
use Rattle.std.proofs.lemmas.List.Sorted.{IsPartitionPoint-from_clause}
use Rattle.touch_region.specs.Between.{is_between}
use Rattle.touch_region.proofs.Rising.{ended_first, found, not_found, between_from, between_until}
use Rattle.touch_region.proofs.span.spans_hold.Goals as goal

pub returns-in-Some : goal.returns-in-Some
returns-in-Some c =
    let point : IsPartitionPoint (λ s. int_le s.until c.args.x ≡ true) (λ s. int_le s.until c.args.x ≡ false) c.args.spans.now c.partition_point-place.result =
    IsPartitionPoint-from_clause (λ s. int_le s.until c.args.x) c.args.spans.now c.partition_point-place.result c.partition_point-place.ensures.partitioned (ended_first (λ s. s.from) (λ s. s.until) c.args.x c.args.spans.now c.requires) (λ a r f q. search rules) in
    let fits = c.ranges.x in
    let here = simp to_z-of_z at c.contains.ensures in
    let is = rw c.in-Some.is at c.get.ensures.lookup in
    here ∙ found (λ s. s.from) (λ s. s.until) (λ s. is_between s.from c.args.x s.until) c.args.x (λ s t. between_from s.from c.args.x s.until t) (λ s t. between_until s.from c.args.x s.until t) c.args.spans.now c.requires c.partition_point-place.result point c.in-Some.span.now is.3.0 is.1

pub returns-in-None : goal.returns-in-None
returns-in-None c =
    let point : IsPartitionPoint (λ s. int_le s.until c.args.x ≡ true) (λ s. int_le s.until c.args.x ≡ false) c.args.spans.now c.partition_point-place.result =
    IsPartitionPoint-from_clause (λ s. int_le s.until c.args.x) c.args.spans.now c.partition_point-place.result c.partition_point-place.ensures.partitioned (ended_first (λ s. s.from) (λ s. s.until) c.args.x c.args.spans.now c.requires) (λ a r f q. search rules) in
    let is = rw c.in-None.is at c.get.ensures.lookup in
    not_found (λ s. s.from) (λ s. s.until) (λ s. is_between s.from c.args.x s.until) c.args.x (λ s t. between_from s.from c.args.x s.until t) (λ s t. between_until s.from c.args.x s.until t) c.args.spans.now c.requires c.partition_point-place.result point is.3
