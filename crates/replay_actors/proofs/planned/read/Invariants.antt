use Rattle.std.proofs.Common.{◌≡◌, take, reverse}
use Rattle.turnstile.specs.Seats.{view}
use Rattle.input_service.specs.Services.{IsOf}
use Rattle.replay_actors.specs.Lanes.{calls_made, notifies}
use Rattle.replay_actors.specs.Seats.{Stays}
use Rattle.replay_actors.proofs.planned.read.Given as goal

-- the calls so far are those for the args so far
abbrev pub invariant-cooked : goal.invariant-cooked
invariant-cooked g l =
    IsOf l.shared.service.now l.lane.seat
    × Stays (view l.initial.lane.seat) (view l.lane.seat)
    × (calls_made (view l.lane.seat).mine.own ≡ reverse (notifies (take l.entry-index l.cooked)))
