use Rattle.std.proofs.Common.{◌≡◌, ◌≤◌}
use Rattle.turnstile.specs.Seats.{view}
use Rattle.window_snapshot.specs.Mask.{mask_has}
use Rattle.input_service.specs.Services.{IsOf}
use Rattle.replay_actors.specs.Lanes.{receiving, receives}
use Rattle.replay_actors.specs.Seats.{Stays}
use Rattle.replay_actors.proofs.part.Owner.attend.Given as goal

-- so many answers gave no message, and a message of this channel is taken next
abbrev pub invariant-receives : goal.invariant-receives
invariant-receives g l =
    IsOf l.shared.service.now l.lane.seat
    × Stays (view l.initial.lane.seat) (view l.lane.seat)
    × (receiving (mask_has l.self.finishing) l.self.channels l.self.number (view l.lane.seat).mine.own ≡ receives l.idle l.channel)
    × (l.idle ≤ 16384)
    × (l.channel ≤ 64)
