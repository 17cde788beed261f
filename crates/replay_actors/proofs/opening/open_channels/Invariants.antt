use Rattle.std.proofs.Common.{◌≡◌, length, map, take, reverse}
use Rattle.turnstile.specs.Seats.{view}
use Rattle.dispatch_history.specs.Given.{opens}
use Rattle.session_plan.specs.View.{channel_view}
use Rattle.input_service.specs.Services.{IsOf}
use Rattle.replay_actors.specs.Lanes.{calls_made}
use Rattle.replay_actors.specs.Raced.{OnlyOpens}
use Rattle.replay_actors.specs.Opening.{IsCaller}
use Rattle.replay_actors.specs.Session.{channel_of}
use Rattle.replay_actors.proofs.opening.open_channels.Given as goal

-- the channels so far are opened, and nothing else was called
abbrev pub invariant-channels : goal.invariant-channels
invariant-channels g l =
    IsOf l.service l.seat
    × IsCaller (view l.seat)
    × ((view l.seat).setup ≡ (view l.initial.seat).setup)
    × OnlyOpens (view l.seat).mine.own
    × (length (view l.seat).mine.own ≡ l.channel-index)
    × (calls_made (view l.seat).mine.own ≡ reverse (opens (map (channel_of l.repeats) (map channel_view (take l.channel-index l.channels)))))
