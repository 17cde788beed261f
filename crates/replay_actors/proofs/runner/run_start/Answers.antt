-- The lanes are run.
use Rattle.replay_actors.specs.Starts.{Left}
use Rattle.replay_actors.proofs.Ends.{if_ok_five}
use Rattle.replay_actors.proofs.runner.run_start.Goals as goal

pub returns : goal.returns
returns g c =
    if_ok_five c.run_lanes.result _ _ _ _ _ (Left c.args.start)
    (λ end displays race settled seats sound. record { displays = displays; race = race; settled = settled; seats = seats; sound = sound })
    c.run_lanes.ensures.displays c.run_lanes.ensures.race c.run_lanes.ensures.settled c.run_lanes.ensures.seats c.run_lanes.ensures.sound
