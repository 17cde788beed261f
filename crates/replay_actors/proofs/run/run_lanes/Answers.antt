use Rattle.std.proofs.Common.{◌≡◌, length, ap, ◌∙◌}
use Rattle.turnstile.specs.Seats.{view}
use Rattle.replay_actors.specs.Race.{seats_from}
use Rattle.replay_actors.proofs.Dealing.{all_scripted}
use Rattle.replay_actors.proofs.RunEnds.{seats_many, settled, settled_race}
use Rattle.replay_actors.proofs.run.run_lanes.Goals as goal

pub returns-clause-race : goal.returns-clause-race
returns-clause-race g c =
    let many : c.len.result ≡ length c.args.lanes.scripts.items = c.len.ensures ∙ c.args.lanes.scripts.ok.0 in
    settled c.args.lanes (view c.args.seat).mine.own c.in_ok-core.core c.settle.new.core c.in_ok-script_seats.script_seats.items
    c.requires.opens.1 c.in_ok-core.ensures.raced (all_scripted c.args.lanes.scripts.items) c.in_ok-settle.ensures.came c.in_ok-settle.ensures.sound
    (c.in_ok-script_seats.ensures ∙ ap (seats_from 3) many)

pub returns-clause-seats : goal.returns-clause-seats
returns-clause-seats g c =
    let many : c.len.result ≡ length c.args.lanes.scripts.items = c.len.ensures ∙ c.args.lanes.scripts.ok.0 in
    ap length c.in_ok-script_seats.ensures ∙ seats_many 3 c.len.result ∙ many

pub returns-clause-settled : goal.returns-clause-settled
returns-clause-settled g c =
    settled_race c.args.lanes (view c.args.seat).mine.own c.in_ok-core.core c.settle.new.core
    c.in_ok-core.ensures.raced c.in_ok-settle.ensures.came
