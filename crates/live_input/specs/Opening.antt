-- Clients that come and go.
use Rattle.std.specs.Prelude.{ℕ, ◌≡◌, true, ◌==◌, ◌&&◌, not, ◌+◌, ◌≤◌, nat_le, List, length, Some, Result, Ok, Err, if◌then◌else◌}
use Rattle.window_snapshot.specs.Mask.{mask_has}
use Rattle.dispatch_calls.specs.declared.call.Call.TheVariants.{Open}
use Rattle.dispatch_calls.specs.declared.terms.Terms.{Terms}
use Rattle.dispatch_history.specs.Delivery.{able}
use Rattle.dispatch_history.specs.Effect.{Effect, past_of, stream}
use Rattle.dispatch_history.specs.History.{opened}
use Rattle.dispatch_history.specs.Legal.{answered}
use Rattle.live_input.specs.declared.client.Client.{Client}
use Rattle.live_input.specs.declared.options.Options.{Options}
use Rattle.live_input.specs.Options.{no_options}
use Rattle.live_input.specs.Seats.{with_seat, seat_of, first_vacant, left_vacant, taken_by}
use Rattle.live_input.specs.declared.refused.CloseRefused.{CloseRefused}
use Rattle.live_input.specs.declared.refused.CloseRefused.TheVariants.{NotOpen, Memory}
use Rattle.live_input.specs.Answers.{SameClients}
use Rattle.live_input.specs.Closing.{hidden, forgotten}
use Rattle.live_input.specs.Settling.{Settles, next_left}
use Rattle.live_input.specs.Standing.{LiveIs}
use Rattle.live_input.specs.State.{LiveState}
use Rattle.live_input.specs.Taking.{TakenInPart}

-- a channel that was opened before is used again, and another one is opened on these terms
abbrev pub opening : List ℕ → Terms → (channel : ℕ) → List Effect → List Effect
opening displays terms c es = if nat_le c (opened (past_of es)) then es else answered displays (Open terms) es

-- The client has the first vacant channel, a generation that no earlier client had, and these options. The other seats
-- stay as they are.
pub record OpensWith (options : Options) (client : Client) (old new : LiveState) : Type 0 where
  pub first : first_vacant old.seats ≡ Some client.channel
  pub generation_is : client.generation ≡ old.opened + 1
  pub opened_is : new.opened ≡ old.opened + 1
  pub before : ℕ
  pub seats_are :
      new.seats ≡ with_seat client.channel (taken_by client.generation before options) old.seats
  pub terms_are : new.terms ≡ old.terms
  pub reported_is : new.reported ≡ old.reported
  pub clock_is : new.clock ≡ old.clock
  pub devices_are : new.devices ≡ old.devices
  pub pending_is : new.pending ≡ old.pending
  pub fingers_are : new.fingers ≡ old.fingers

-- a client is opened without more being said
abbrev pub OpensClient : Client → (old new : LiveState) → Type 0
OpensClient client old new = OpensWith no_options client old new

-- a channel was opened, or is the first one that was not
pub record IsNext (c : ℕ) (es : List Effect) : Type 0 where
  pub from : 1 ≤ c
  pub to : c ≤ 64
  pub next : c ≤ opened (past_of es) + 1

-- After that the service stands for the history with the call that opens the channel, if any, and the client's seat
-- says how many messages of the channel are from before it. The client can be given input at once.
pub record OpensOn (displays : List ℕ) (es : List Effect) (client : Client) (old new : LiveState) : Type 0 where
  pub is : LiveIs displays (opening displays old.terms client.channel es) new
  pub before_is : (seat_of new.seats client.channel).before ≡ length (stream (opening displays old.terms client.channel es) client.channel)
  pub able_is : able (opening displays old.terms client.channel es) client.channel ≡ true

-- Closing vacates the seat of the client and leaves all others as they are. A report of the client that was not answered yet is dropped.
pub record Closes (client : Client) (old new : LiveState) : Type 0 where
  pub seats_are :
      new.seats
      ≡ with_seat client.channel (left_vacant (seat_of old.seats client.channel).before) old.seats
  pub opened_is : new.opened ≡ old.opened
  pub terms_are : new.terms ≡ old.terms
  pub devices_are : new.devices ≡ old.devices
  pub pending_is : new.pending ≡ old.pending
  pub fingers_are : new.fingers ≡ old.fingers
  pub reported_are : (c : ℕ) → mask_has new.reported c ≡ (not (c == client.channel) && mask_has old.reported c)

-- An open client is closed at this moment, which is then the clock: its window is hidden, its requests are withdrawn
-- without moving keys, and everything left for it is received and finished. If memory runs out, it is still open, and
-- some of that is done: each further call takes something away from it.
abbrev pub CloseGoes : List ℕ → (now : ℕ) → Client → List Effect → Result (Unit {0}) CloseRefused → (old new : LiveState) → Type 0
CloseGoes displays now k es (Ok done) old new =
    Closes k old new × (new.clock ≡ now)
    × Settles displays (next_left now k.channel) (forgotten displays now k.channel (hidden displays now k.channel es)) new
CloseGoes displays now k es (Err NotOpen) old new = ⊥
CloseGoes displays now k es (Err Memory) old new =
    SameClients old new × (new.clock ≡ now) × TakenInPart displays now k.channel es new
