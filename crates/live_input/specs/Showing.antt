-- Windows and requests of clients.
use Rattle.std.specs.Prelude.{ℕ, ◌≡◌, Bool, true, false, List, Option, Some, None, Result, Ok, Err}
use Rattle.dispatch_calls.specs.declared.call.Call.TheVariants.{FocusOn}
use Rattle.dispatch_history.specs.Effect.{Effect}
use Rattle.live_input.specs.declared.client.Client.{Client}
use Rattle.live_input.specs.declared.client.Seat.{Seat}
use Rattle.live_input.specs.declared.refused.FocusRefused.{FocusRefused}
use Rattle.live_input.specs.declared.refused.FocusRefused.TheVariants.{NotOpen, Memory}
use Rattle.live_input.specs.Seats.{is_open}
use Rattle.live_input.specs.Answers.{Makes}
use Rattle.live_input.specs.State.{LiveState}

-- the channel of a client, if it is one
abbrev pub channel_of : Option Client → Option ℕ
channel_of None = None
channel_of (Some k) = Some k.channel

-- no client, or one that is open
abbrev pub may_ask : List Seat → Option Client → Bool
may_ask seats None = true
may_ask seats (Some k) = is_open seats k

-- After a request that call was made. A request for a client that is not open is refused and
-- changes nothing; if memory runs out, nothing changes either.
abbrev pub FocusGoes :
    List ℕ → (now display : ℕ) → Option Client → (keys : Bool) → List Effect → Result (Unit {0}) FocusRefused → (old new : LiveState) → Type 0
FocusGoes displays now display client keys es (Ok done) old new =
    (may_ask old.seats client ≡ true) × Makes displays es (FocusOn now display (channel_of client) keys) new
FocusGoes displays now display client keys es (Err NotOpen) old new = (may_ask old.seats client ≡ false) × (new ≡ old)
FocusGoes displays now display client keys es (Err Memory) old new = (may_ask old.seats client ≡ true) × (new ≡ old)
