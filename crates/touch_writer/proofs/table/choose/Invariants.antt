use Rattle.std.specs.Prelude.{◌≡◌, ℕ, ◌+◌, ◌<◌, ◌≤◌, length, drop, get_or}
use Rattle.touch_writer.specs.Search.{IsRow, blank, free}
use Rattle.touch_writer.proofs.table.choose.Given as goal

-- the row has the best choices for the slots from this one on
abbrev pub invariant-loop-slot : goal.invariant-loop-slot
invariant-loop-slot l = record {
  row : IsRow l.rest l.case.want.now l.case.current l.slot (drop l.slot l.places) l.case.news.now l.case.next (length l.case.news.now + 1);
  free : l.free ≡ free l.case.want.now (drop l.slot l.places);
  blanks : (k : ℕ) → length l.case.news.now < k → get_or l.rest k blank ≡ blank;
  within : l.slot ≤ length l.places;
}

abbrev pub decreases-loop-slot : goal.decreases-loop-slot
decreases-loop-slot l = l.slot
