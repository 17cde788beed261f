use Rattle.std.proofs.Common.{◌≡◌, ◌+◌, ◌≤◌, length, true}
use Rattle.compare_text.specs.Indexed.{is_good, messages_at}
use Rattle.compare_text.specs.Pairing.{points_say}
use Rattle.compare_text.specs.Points.{points_in}
use Rattle.compare_text.proofs.compare.compare_points.Given as goal

-- what the remaining points say, behind those so far, is what all say
abbrev pub invariant-points : goal.invariant-points
invariant-points l = record {
  wanted : is_good l.wanted.events ≡ true;
  came : is_good l.came.events ≡ true;
  room : l.measure.points + length (points_in l.rule.each_move (messages_at l.wanted.events)) ≤ l.fn.before.points + length (points_in l.rule.each_move (messages_at l.want.lines.events));
  same : points_say l.rule.tolerance.us l.rule.tolerance.pixels l.fn.before (points_in l.rule.each_move (messages_at l.want.lines.events))
      (points_in l.rule.each_move (messages_at l.got.lines.events))
      ≡ points_say l.rule.tolerance.us l.rule.tolerance.pixels l.measure (points_in l.rule.each_move (messages_at l.wanted.events))
      (points_in l.rule.each_move (messages_at l.came.events));
}

abbrev pub decreases-points : goal.decreases-points
decreases-points l = l.wanted.left
