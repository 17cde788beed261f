-- Room for what devices deliver.
use Rattle.std.specs.Prelude.{ℕ, ◌≡◌, ◌+◌, ◌-◌, ◌≤◌, ◌<◌, ◌^◌, List, length, Result, Err}
use Rattle.raw_events.specs.declared.event.RawEvent.{RawEvent}
use Rattle.device_reader.specs.Cooked.{DevicePlan, args_of}
use Rattle.dispatch_history.specs.Effect.{Effect}
use Rattle.live_input.specs.declared.refused.ArgsRefused.{ArgsRefused}
use Rattle.live_input.specs.declared.refused.ArgsRefused.TheVariants.{Waits}
use Rattle.live_input.specs.State.{LiveState}

-- the most args that an event of a device gives: sixteen fingers go up, a move, and sixteen go down
abbrev pub most_args : ℕ
most_args = 33

-- There is room to hand in n args and to dispatch n args.
pub record HasRoom (n : ℕ) (s : LiveState) : Type 0 where
  pub spare : n ≤ s.dispatcher.queue.spare
  pub pumps : n ≤ s.dispatcher.queue.pumps

-- n more calls can be counted in 64 bits
abbrev pub MayCountMore : ℕ → List Effect → Type 0
MayCountMore n es = length es + n < 2 ^ 64 - 1

-- What was handed in does not wait, and leaves room for n more args.
abbrev pub GoesAtOnce : (n : ℕ) → Result (Unit {0}) ArgsRefused → LiveState → Type 0
GoesAtOnce n (Err Waits) s = ⊥
GoesAtOnce n result s = HasRoom n s

-- Args were handed in: each took the room of one at most, none took room of pumps, and each waits or was refused.
pub record HandsOver (old new : LiveState) : Type 0 where
  pub spare_is : old.dispatcher.queue.spare + length new.pending ≤ new.dispatcher.queue.spare + length old.pending
  pub pumps_are : new.dispatcher.queue.pumps ≡ old.dispatcher.queue.pumps
  pub waiting_is :
      length new.dispatcher.queue.waiting + length new.pending ≤ length old.dispatcher.queue.waiting + length old.pending
  pub place_is : new.dispatcher.queue.place + length new.pending ≡ old.dispatcher.queue.place + length old.pending

-- Args that waited were dispatched: each took the room of one pump, and none took room for args.
pub record PumpsOver (old new : LiveState) : Type 0 where
  pub spare_is : old.dispatcher.queue.spare ≤ new.dispatcher.queue.spare
  pub pumps_are :
      old.dispatcher.queue.pumps + length new.dispatcher.queue.waiting
      ≤ new.dispatcher.queue.pumps + length old.dispatcher.queue.waiting
  pub place_is :
      new.dispatcher.queue.place + length new.dispatcher.queue.waiting
      ≡ old.dispatcher.queue.place + length old.dispatcher.queue.waiting

-- If there is room for what an event of a device gives, it does not wait, and leaves room for n more args.
abbrev pub GivesAtOnce :
    (n : ℕ) → List Effect → DevicePlan → List RawEvent → RawEvent → Result (Unit {0}) ArgsRefused → (old new : LiveState) → Type 0
GivesAtOnce n es plan past e result old new =
    let k = length (args_of plan past e) in
    HasRoom (k + n) old → MayCountMore (k + k) es → GoesAtOnce n result new
