use Rattle.std.proofs.Common.{◌≡◌, ◌≤◌}
use Rattle.turnstile.specs.Seats.{view}
use Rattle.input_service.specs.Services.{IsOf}
use Rattle.replay_actors.specs.Lanes.{pumping, pumps}
use Rattle.replay_actors.specs.Seats.{Stays}
use Rattle.replay_actors.proofs.answered.dispatch.Given as goal

-- so many answers were idle, and a pump is next
abbrev pub invariant-pumps : goal.invariant-pumps
invariant-pumps g l =
    IsOf l.shared.service.now l.lane.seat
    × Stays (view l.initial.lane.seat) (view l.lane.seat)
    × (pumping (view l.lane.seat).mine.own ≡ pumps l.idle)
    × (l.idle ≤ 16384)
