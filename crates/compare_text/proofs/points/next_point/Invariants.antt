use Rattle.std.proofs.Common.{◌≡◌, ◌≤◌, true}
use Rattle.compare_text.specs.Indexed.{is_good, messages_at}
use Rattle.compare_text.specs.Points.{points_in}
use Rattle.compare_text.proofs.points.next_point.Given as goal

-- what is skipped is no point
abbrev pub invariant-lines : goal.invariant-lines
invariant-lines l = record {
  good : is_good l.lines.events ≡ true;
  points : points_in l.each_move (messages_at l.initial.lines.events) ≡ points_in l.each_move (messages_at l.lines.events);
  left : l.lines.left ≤ l.initial.lines.left;
}

abbrev pub decreases-lines : goal.decreases-lines
decreases-lines l = l.lines.left
