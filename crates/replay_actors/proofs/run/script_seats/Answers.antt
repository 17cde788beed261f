use Rattle.std.proofs.Common.{◌+◌, ◌-◌, ◌++◌, ap, ◌∙◌}
use Rattle.replay_actors.specs.Race.{seats_from}
use Rattle.replay_actors.proofs.RunEnds.{seat_next}
use Rattle.replay_actors.proofs.run.script_seats.Goals as goal

pub seats-preserved : goal.seats-preserved
seats-preserved c =
    ap (λ xs. xs ++ seats_from (3 + (c.seats.k + 1)) (c.args.scripts - (c.seats.k + 1))) c.in_ok-push.ensures.items
    ∙ seat_next c.seats.seats.items c.seats.k c.args.scripts (seats_from 3 c.args.scripts) c.seats-test.true c.seats.invariant
