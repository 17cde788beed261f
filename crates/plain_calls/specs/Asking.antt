-- What can be asked about clients, in terms of the service.
use Rattle.std.specs.Prelude.{◌≡◌, ℕ, Bool, true, false, List, Option, None, if◌then◌else◌}
use Rattle.bits32.specs.Set.{is_in}
use Rattle.routing_rules.specs.Marks.{held}
use Rattle.routing_rules.specs.Pairs.{has}
use Rattle.window_snapshot.specs.Mask.{is_channel}
use Rattle.dispatch_history.specs.Effect.{Effect, past_of}
use Rattle.dispatch_history.specs.Focus.{focus, key_target}
use Rattle.dispatch_history.specs.Step.{marks}
use Rattle.live_input.specs.declared.client.Client.{Client}
use Rattle.live_input.specs.Asking.{client_of_some, responds}
use Rattle.live_input.specs.Seats.{is_open, client_at}
use Rattle.live_input.specs.Standing.{LiveIs}
use Rattle.live_input.specs.State.{LiveState}
use Rattle.plain_calls.specs.Calling.{answer_status, written}
use Rattle.plain_calls.specs.Clients.{plain_client}
use Rattle.plain_calls.specs.Numbers.{flag}
use Rattle.plain_calls.specs.declared.client.PlainClient.{PlainClient}

-- the client that is open on a channel, if it is one and one is
abbrev pub client_on : LiveState → ℕ → Option Client
client_on s c = if is_channel c then client_at s.seats c else None

-- an optional client is returned
abbrev pub AnswersClient : ℕ → Option Client → (before after : PlainClient) → Type 0
AnswersClient status r before after = (status ≡ answer_status r) × (after ≡ written plain_client r before)

-- the client that has the focus of a display
abbrev pub HasFocus : LiveState → (display : ℕ) → Option Client → Type 0
HasFocus s y r = (ds : List ℕ) (es : List Effect) → LiveIs ds es s → r ≡ client_of_some s.seats (focus (past_of es) y)

-- the client that keys go to
abbrev pub GetsKeys : LiveState → Option Client → Type 0
GetsKeys s r = (ds : List ℕ) (es : List Effect) → LiveIs ds es s → r ≡ client_of_some s.seats (key_target (past_of es))

-- whether a client is open and responds, as a number
pub record Responds (s : LiveState) (client : Client) (told : ℕ) : Type 0 where
  pub answer : Bool
  pub sent_is : told ≡ flag answer
  pub stale : is_open s.seats client ≡ false → answer ≡ false
  pub while_open :
      (ds : List ℕ) (es : List Effect) → LiveIs ds es s → is_open s.seats client ≡ true → answer ≡ responds es client.channel

-- the ids of the pointers of a device that a client holds, as bits
pub record Holds (s : LiveState) (client : Client) (device ids : ℕ) : Type 0 where
  pub stale : is_open s.seats client ≡ false → ids ≡ 0
  pub held :
      (ds : List ℕ) (es : List Effect) → LiveIs ds es s → is_open s.seats client ≡ true
      → (i : ℕ) → is_in i ids ≡ has (held (marks es)) client.channel device i

-- the clock: the latest moment that was handed in
abbrev pub IsClock : LiveState → ℕ → Type 0
IsClock s t = t ≡ s.clock
