-- What can be asked about clients.
use Rattle.std.specs.Prelude.{ℕ, ◌||◌, Bool, not, is_some, List, Option, Some, None, if◌then◌else◌}
use Rattle.window_snapshot.specs.Mask.{is_channel}
use Rattle.dispatch_history.specs.Delivery.{able, oldest}
use Rattle.dispatch_history.specs.Effect.{Effect}
use Rattle.live_input.specs.declared.client.Client.{Client}
use Rattle.live_input.specs.declared.client.Seat.{Seat}
use Rattle.live_input.specs.Seats.{client_at}

-- the client that is open on a channel, if it is one of the 64 and one is
abbrev pub client_on : List Seat → ℕ → Option Client
client_on seats c = if is_channel c then client_at seats c else None

-- the client of a channel that may be there
abbrev pub client_of_some : List Seat → Option ℕ → Option Client
client_of_some seats None = None
client_of_some seats (Some c) = client_on seats c

-- a channel responds if it can take input, or if none of its messages is unfinished
abbrev pub responds : List Effect → ℕ → Bool
responds es c = able es c || not (is_some (oldest es c))
