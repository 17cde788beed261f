use Rattle.std.proofs.Common.{◌≡◌, reverse}
use Rattle.turnstile.specs.Seats.{view}
use Rattle.input_service.specs.Services.{IsOf}
use Rattle.replay_actors.specs.Lanes.{calls_made}
use Rattle.replay_actors.specs.Seats.{Stays}
use Rattle.replay_actors.specs.Parts.{calls_of}
use Rattle.replay_actors.proofs.planned.follow.Given as goal

-- the calls so far are those of the steps so far
abbrev pub invariant-steps : goal.invariant-steps
invariant-steps g l =
    IsOf l.shared.service.now l.lane.seat
    × Stays (view l.initial.lane.seat) (view l.lane.seat)
    × (calls_made (view l.lane.seat).mine.own ≡ reverse (calls_of l.yielded))
