-- Which histories a live service stands for.
use Rattle.std.specs.Prelude.{ℕ, ◌≡◌, ◌≤◌, ◌<◌, Bool, true, false, List, [], ◌++◌, length, slice_index_or, Option, Some, None}
use Rattle.input_types.specs.declared.message.Message.{Message}
use Rattle.input_types.specs.StreamRule.{stream_state, unsent}
use Rattle.window_snapshot.specs.declared.window.Window.{Window}
use Rattle.window_snapshot.specs.Mask.{mask_has}
use Rattle.window_snapshot.specs.Named.{is_named}
use Rattle.dispatch_calls.specs.declared.call.Call.{Call}
use Rattle.dispatch_calls.specs.declared.call.Call.TheVariants.{Open, Windows, FocusOn, Receive, Finish, Remove}
use Rattle.dispatch_history.specs.Delivery.{unfinished}
use Rattle.dispatch_history.specs.Due.{anrs}
use Rattle.dispatch_history.specs.Effect.{Effect, past_of, stream}
use Rattle.dispatch_history.specs.Focus.{requested, asked}
use Rattle.dispatch_history.specs.History.{History, live, opened, received, snapshot}
use Rattle.dispatcher.specs.Access.{gone, anrs_released}
use Rattle.dispatcher.specs.Dispatching.{Dispatching, StandsFor}
use Rattle.live_input.specs.declared.client.Seat.{Seat}
use Rattle.live_input.specs.Seats.{IsHeld, is_held, seat_of}
use Rattle.live_input.specs.State.{LiveState}
use Rattle.live_input.specs.Steps.{StepsAre}

-- the focus was requested last for these channels, display by display, and keys go to the focus of this display
pub record AreRequested (h : History) (channels : List (Option ℕ)) (display : ℕ) : Type 0 where
  pub four : length channels ≡ 4
  pub channels_are : (y : ℕ) → y < 4 → slice_index_or channels y None ≡ requested h y
  pub display_is : display ≡ asked h
  pub within : display < 4

-- every opened channel is live, and those that clients hold were opened
pub record AreSeated (h : History) (seats : List Seat) : Type 0 where
  pub all : length seats ≡ 64
  pub lives : (c : ℕ) → 1 ≤ c → c ≤ opened h → live h c ≡ true
  pub held : (c : ℕ) → 1 ≤ c → c ≤ 64 → is_held (seat_of seats c) ≡ true → c ≤ opened h

-- all messages of a channel are received and finished
pub record IsDone (es : List Effect) (c : ℕ) : Type 0 where
  pub received_all : received (past_of es) c ≡ length (stream es c)
  pub finished_all : unfinished es c ≡ []

-- A channel has belonged to a client since it had this many messages: these leave nothing known, and were received.
pub record BelongsSince (es : List Effect) (c before : ℕ) : Type 0 where
  pub newer : List Message
  pub older : List Message
  pub stream_is : stream es c ≡ newer ++ older
  pub before_is : length older ≡ before
  pub ended : stream_state older ≡ Some unsent
  pub taken : before ≤ received (past_of es) c

-- these are windows of open clients, and walls, whose numbers are above 64
abbrev pub AreOfHeld : List Window → List Seat → Type 0
AreOfHeld ws seats = (c : ℕ) → c ≤ 64 → is_named ws c ≡ true → IsHeld c seats

-- a mask of channels on which clients are open
abbrev pub IsMaskOfHeld : ℕ → List Seat → Type 0
IsMaskOfHeld mask seats = (c : ℕ) → mask_has mask c ≡ true → IsHeld c seats

-- no channel, or one on which a client is open
abbrev pub IsOfSome : Option ℕ → List Seat → Type 0
IsOfSome None seats = Unit {0}
IsOfSome (Some c) seats = IsHeld c seats

-- Only open clients have windows, and the last focus requests are only for open clients. On a channel on which no
-- client is open, everything is received and finished. A client starts with nothing from those before it.
pub record AreTenants (es : List Effect) (seats : List Seat) : Type 0 where
  pub shown : AreOfHeld (snapshot (past_of es)) seats
  pub asked : (y : ℕ) → y < 4 → IsOfSome (requested (past_of es) y) seats
  pub left : (c : ℕ) → 1 ≤ c → c ≤ opened (past_of es) → is_held (seat_of seats c) ≡ false → IsDone es c
  pub begun : (c : ℕ) → IsHeld c seats → BelongsSince es c (seat_of seats c).before

-- exactly the received messages of each channel are released, and so are all ANRs
pub record AreReleased (es : List Effect) (d : Dispatching) : Type 0 where
  pub messages_are : (c : ℕ) → 1 ≤ c → gone d c ≡ received (past_of es) c
  pub anrs_are : anrs_released d ≡ length (anrs es)

-- The service, whose devices are on these displays, stands for a history with these effects: its dispatcher does, and
-- what is kept besides agrees with the history.
pub record LiveIs (displays : List ℕ) (es : List Effect) (s : LiveState) : Type 0 where
  pub stands : StandsFor es s.dispatcher
  pub displays_are : s.dispatcher.displays ≡ displays
  pub windows_are : s.windows ≡ snapshot (past_of es)
  pub requests_are : AreRequested (past_of es) s.requested s.asked
  pub seats_are : AreSeated (past_of es) s.seats
  pub tenants_are : AreTenants es s.seats
  pub reported_are : IsMaskOfHeld s.reported s.seats
  pub release : AreReleased es s.dispatcher
  pub steps_are : StepsAre es s.steps

-- a call that shows no windows, requests no focus, and neither opens nor removes a channel
abbrev pub is_plain : Call → Bool
is_plain (Open terms) = false
is_plain (Windows now snapshot) = false
is_plain (FocusOn now display channel keys) = false
is_plain (Remove now channel) = false
is_plain call = true

-- only an open client receives or finishes a message
abbrev pub IsOfHeld : List Seat → Call → Type 0
IsOfHeld seats (Receive c) = IsHeld c seats
IsOfHeld seats (Finish now c seq) = IsHeld c seats
IsOfHeld seats call = Unit {0}
