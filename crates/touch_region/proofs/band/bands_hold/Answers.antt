use Rattle.std.proofs.Common.{◌≡◌, ◌∙◌, ◌&&◌, true, false, rules}
use Rattle.std.specs.Prelude.{int_le}
use Rattle.std.specs.List.Sorted.{IsPartitionPoint}
use Rattle.std.proofs.lemmas.Int.{to_z-of_z}
use Rattle.std.proofs.lemmas.List.Sorted.{IsPartitionPoint-from_clause}
use Rattle.std.proofs.lemmas.Bool.{and_parts}
use Rattle.touch_region.specs.Spans.{spans_hold}
use Rattle.touch_region.specs.Between.{is_between}
use Rattle.touch_region.proofs.Rising.{ended_first, found, not_found, between_from, between_until}
use Rattle.touch_region.proofs.band.bands_hold.Goals as goal

pub returns-in-Some : goal.returns-in-Some
returns-in-Some c =
    let point : IsPartitionPoint (λ s. int_le s.bottom c.args.y ≡ true) (λ s. int_le s.bottom c.args.y ≡ false) c.args.bands.now c.partition_point-place.result =
    IsPartitionPoint-from_clause (λ s. int_le s.bottom c.args.y) c.args.bands.now c.partition_point-place.result c.partition_point-place.ensures.partitioned (ended_first (λ s. s.top) (λ s. s.bottom) c.args.y c.args.bands.now c.requires) (λ a r f q. search rules) in
    let fits = c.ranges.x in
    let fits_too = c.ranges.y in
    let here = simp to_z-of_z at c.contains.ensures in
    let is = rw c.in-Some.is at c.get.ensures.lookup in
    here ∙ found (λ s. s.top) (λ s. s.bottom) (λ b. is_between b.top c.args.y b.bottom && spans_hold b.spans c.args.x) c.args.y (λ s t. between_from s.top c.args.y s.bottom (and_parts _ _ t).0) (λ s t. between_until s.top c.args.y s.bottom (and_parts _ _ t).0) c.args.bands.now c.requires c.partition_point-place.result point c.in-Some.band.now is.3.0 is.1

pub returns-in-None : goal.returns-in-None
returns-in-None c =
    let point : IsPartitionPoint (λ s. int_le s.bottom c.args.y ≡ true) (λ s. int_le s.bottom c.args.y ≡ false) c.args.bands.now c.partition_point-place.result =
    IsPartitionPoint-from_clause (λ s. int_le s.bottom c.args.y) c.args.bands.now c.partition_point-place.result c.partition_point-place.ensures.partitioned (ended_first (λ s. s.top) (λ s. s.bottom) c.args.y c.args.bands.now c.requires) (λ a r f q. search rules) in
    let is = rw c.in-None.is at c.get.ensures.lookup in
    not_found (λ s. s.top) (λ s. s.bottom) (λ b. is_between b.top c.args.y b.bottom && spans_hold b.spans c.args.x) c.args.y (λ s t. between_from s.top c.args.y s.bottom (and_parts _ _ t).0) (λ s t. between_until s.top c.args.y s.bottom (and_parts _ _ t).0) c.args.bands.now c.requires c.partition_point-place.result point is.3
