-- What devices deliver, and how the history grows by it.
use Rattle.std.specs.Prelude.{ℕ, nat_eq, ◌≡◌, ◌&&◌, ◌⊎◌, Bool, true, false, List, [], ◌∷◌, ◌++◌, map, Some, Result, Ok, Err}
use Rattle.input_types.specs.declared.message.Args.{Args}
use Rattle.raw_events.specs.declared.event.RawEvent.{RawEvent}
use Rattle.input_types.specs.DeviceRule.{device_of, device_state}
use Rattle.device_reader.specs.Cooked.{DevicePlan, args_of, number_of}
use Rattle.device_reader.specs.Packets.{since_drop}
use Rattle.device_reader.specs.Rule.{down_at}
use Rattle.device_table.specs.Table.{StandsAt}
use Rattle.dispatch_calls.specs.declared.call.Call.{Call}
use Rattle.dispatch_calls.specs.declared.call.Call.TheVariants.{Notify}
use Rattle.dispatch_history.specs.Effect.{Effect, past_of}
use Rattle.dispatch_history.specs.Legal.{answered}
use Rattle.dispatch_history.specs.Ordered.{extend}
use Rattle.dispatch_history.specs.Queue.{accepted}
use Rattle.dispatch_history.specs.Reply.{reply_to}
use Rattle.live_input.specs.declared.refused.ArgsRefused.{ArgsRefused}
use Rattle.live_input.specs.declared.refused.ArgsRefused.TheVariants.{NoDevice, Inconsistent, Memory, Waits}
use Rattle.live_input.specs.Answers.{is_taken}
use Rattle.live_input.specs.Settling.{Reaches, Settles, next_waiting}
use Rattle.live_input.specs.Standing.{LiveIs}
use Rattle.live_input.specs.State.{LiveState}

-- Args are handed in, one after another.
abbrev pub notified : List ℕ → (now : ℕ) → List Effect → List Args → List Effect
notified displays now es args = extend displays es (map (Notify now) args)

-- the call hands in args of this device
abbrev pub hands_in : Call → ℕ → Bool
hands_in (Notify now args) d = nat_eq (device_of args) d
hands_in call d = false

-- all of them are accepted: each fits what its device did before
abbrev pub all_taken : List ℕ → (now : ℕ) → List Effect → List Args → Bool
all_taken displays now es [] = true
all_taken displays now es (a ∷ later) =
    is_taken (reply_to es (Notify now a)) && all_taken displays now (answered displays (Notify now a) es) later

-- Some of these args are handed in: once the remaining ones are handed in too, all were.
pub record HandedInPart (displays : List ℕ) (now : ℕ) (es : List Effect) (args : List Args) (s : LiveState) : Type 0 where
  pub so_far : List Effect
  pub is : LiveIs displays so_far s
  pub rest : notified displays now so_far s.pending ≡ notified displays now es args

-- All of them are handed in, and some of what waits was dispatched.
pub record DispatchedInPart (displays : List ℕ) (now : ℕ) (es : List Effect) (args : List Args) (s : LiveState) : Type 0 where
  pub none : s.pending ≡ []
  pub reaches : Reaches displays (next_waiting now) (notified displays now es args) s

-- All of them are handed in, and everything that waits was dispatched.
pub record Dispatched (displays : List ℕ) (now : ℕ) (es : List Effect) (args : List Args) (s : LiveState) : Type 0 where
  pub none : s.pending ≡ []
  pub settles : Settles displays (next_waiting now) (notified displays now es args) s

-- Args are handed in and dispatched; those that do not fit are not accepted. If memory runs out, this is done in part.
abbrev pub Delivers : List ℕ → (now : ℕ) → List Effect → List Args → Result (Unit {0}) ArgsRefused → LiveState → Type 0
Delivers displays now es args (Ok done) s = (all_taken displays now es args ≡ true) × Dispatched displays now es args s
Delivers displays now es args (Err Inconsistent) s = (all_taken displays now es args ≡ false) × Dispatched displays now es args s
Delivers displays now es args (Err Waits) s = HandedInPart displays now es args s ⊎ DispatchedInPart displays now es args s
Delivers displays now es args (Err NoDevice) s = ⊥
Delivers displays now es args (Err Memory) s = ⊥

-- What a device delivers at this moment is queued behind what must still be handed in, and delivered with that; the
-- devices are then these, and the clock is that moment. If it cannot be queued, nothing changes.
abbrev pub Gives :
    List ℕ → (now : ℕ) → List Effect → List Args → (devices : Type 0) → Result (Unit {0}) ArgsRefused → (old new : LiveState) → Type 0
Gives displays now es args devices (Err Memory) old new = new ≡ old
Gives displays now es args devices result old new =
    devices × (new.clock ≡ now) × Delivers displays now es (old.pending ++ args) result new

-- A reader with this plan, and these events so far, takes an event more, and what it then gives is delivered.
abbrev pub GivesEvent :
    List ℕ → (now : ℕ) → List Effect → DevicePlan → List RawEvent → RawEvent → Result (Unit {0}) ArgsRefused → (old new : LiveState) → Type 0
GivesEvent displays now es plan past e result old new =
    Gives displays now es (args_of plan past e) (StandsAt plan (e ∷ past) e.device new.devices) result old new

-- The reader of a device, with this plan and these events so far, has the same down on its device as the args of it that
-- the history accepted.
abbrev pub IsFed : DevicePlan → List RawEvent → List Effect → Type 0
IsFed plan past es = device_state (number_of plan) (accepted (past_of es)) ≡ Some (down_at plan (since_drop past))
