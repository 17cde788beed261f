use Rattle.std.specs.Prelude.{◌≡◌, ℕ, ◌+◌, ◌≤◌, List, ◌∷◌, length, get_or}
use Rattle.touch_writer.specs.declared.place.Place.{Place}
use Rattle.touch_writer.specs.Search.{IsRow, blank, free}
use Rattle.touch_writer.proofs.table.row.Given as goal

-- the entries so far are best choices, and the others are blank
abbrev pub invariant-loop-left : goal.invariant-loop-left
invariant-loop-left l = record {
  filled : (behind : List Place) → l.free ≡ free l.case.want.now behind
      → IsRow l.rest l.case.want.now l.case.current (l.slot + 1) behind l.case.news.now l.case.next (length l.case.news.now + 1)
      → IsRow l.row l.case.want.now l.case.current l.slot (l.place ∷ behind) l.case.news.now l.case.next l.left;
  blanks : (k : ℕ) → l.left ≤ k → get_or l.row k blank ≡ blank;
  whole : length l.row ≡ 17;
}
