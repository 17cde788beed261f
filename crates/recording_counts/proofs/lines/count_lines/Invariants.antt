use Rattle.std.proofs.Common.{◌≡◌, ◌++◌, List, ℕ, length, reverse}
use Rattle.raw_events.specs.Line.{known}
use Rattle.raw_events.specs.Pieces.{parts}
use Rattle.recording_counts.specs.LineTally.{LineCountsStandFor}
use Rattle.recording_counts.proofs.lines.count_lines.Given as goal

-- the lines so far, with those that are left, are all
abbrev pub invariant-lines : goal.invariant-lines
invariant-lines l = record {
  done : List (List ℕ);
  split : done ++ (parts l.rest).ended ≡ (parts l.bytes).ended;
  begun : (parts l.rest).begun ≡ (parts l.bytes).begun;
  counts : (past : List (List ℕ)) → LineCountsStandFor (known l.devices) past l.fn.counts → LineCountsStandFor (known l.devices) (reverse done ++ past) l.counts;
}

abbrev pub decreases-lines : goal.decreases-lines
decreases-lines l = length l.rest
