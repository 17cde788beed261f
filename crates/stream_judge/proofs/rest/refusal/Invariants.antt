use Rattle.std.proofs.Common.{◌≡◌}
use Rattle.stream_judge.specs.Judged.{refused_at}
use Rattle.stream_judge.proofs.rest.refusal.Given as goal

-- what holds for the remaining lines holds for all
abbrev pub invariant-lines : goal.invariant-lines
invariant-lines l = refused_at l.line l.lines.events ≡ refused_at l.line l.initial.lines.events

abbrev pub decreases-lines : goal.decreases-lines
decreases-lines l = l.lines.left
