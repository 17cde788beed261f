use Rattle.std.proofs.Common.{map}
use Rattle.given_run.specs.Planned.{whole_plan}
use Rattle.stream_text.specs.OrderAsks.{line_of}
use Rattle.given_run.proofs.Behind.{Along}
use Rattle.given_run.proofs.follow.followed.Given as goal

-- the lines so far were followed
abbrev pub invariant-loop-at : goal.invariant-loop-at
invariant-loop-at l = Along (whole_plan l.plan l.cooked) (map line_of l.order) l.at l.progress
