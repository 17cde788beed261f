-- What is kept of the clock, of args that wait and of what is down, and how a step changes it.
use Rattle.std.specs.Prelude.{◌≡◌, ℕ, ◌-◌, suc, max, List, [], ◌∷◌, ◌++◌, drop, length, Ok}
use Rattle.input_types.specs.declared.message.Args.{Args}
use Rattle.dispatcher.specs.declared.inbound.change.Change.{Change}
use Rattle.dispatcher.specs.InboundArgs.Kept.{DownSets}
use Rattle.dispatcher.specs.InboundArgs.Down.{DevicesStandFor, PlansAt, Changes}
use Rattle.dispatch_calls.specs.declared.call.Call.{Call}
use Rattle.dispatch_calls.specs.declared.call.Call.TheVariants.{Notify, Pump}
use Rattle.dispatch_calls.specs.declared.reply.Reply.{Reply}
use Rattle.dispatch_calls.specs.declared.reply.Reply.TheVariants.{Taken, Dispatched}
use Rattle.dispatch_history.specs.History.{clock, moment_of}
use Rattle.dispatch_history.specs.Queue.{accepted, inbound}
use Rattle.dispatch_history.specs.Effect.{Effect, past_of}

-- the clock, how many steps there were, the args that wait, for how many more there is room, and what is down on each device by
-- those that were accepted
pub record Queue : Type 0 where
  pub clock : ℕ
  pub place : ℕ
  pub waiting : List Args
  pub spare : ℕ
  -- for how many pumps there is room in the channels
  pub pumps : ℕ
  pub down : List DownSets

-- it stands for the effects of a history
pub record QueueIs (es : List Effect) (k : Queue) : Type 0 where
  pub clock_is : k.clock ≡ clock (past_of es)
  pub place_is : k.place ≡ length es
  pub waiting_is : k.waiting ≡ inbound (past_of es)
  pub down_is : DevicesStandFor (accepted (past_of es)) k.down

-- what waits after a step: accepted args stand after the others, and a pump that dispatches removes the first
abbrev pub waiting_after : Call → Reply → List Args → List Args
waiting_after (Notify now args) Taken waiting = waiting ++ args ∷ []
waiting_after (Pump now) Dispatched waiting = drop 1 waiting
waiting_after call answer waiting = waiting

-- what is down after a step: accepted args change it as planned for them
abbrev pub DownGoes : Call → Reply → (old new : List DownSets) → Type 0
DownGoes (Notify now args) Taken old new = (c : Change) × PlansAt old args (Ok c) × Changes c old new
DownGoes call answer old new = new ≡ old

-- how a step changes it
pub record QueueGoes (call : Call) (answer : Reply) (k later : Queue) : Type 0 where
  pub clock_is : later.clock ≡ max (moment_of call) k.clock
  pub place_is : later.place ≡ suc k.place
  pub waiting_is : later.waiting ≡ waiting_after call answer k.waiting
  pub down_is : DownGoes call answer k.down later.down

-- two steps accept args and dispatch them at once: what is down changes as planned for them, and nothing is queued
pub record Passes (now : ℕ) (change : Change) (k later : Queue) : Type 0 where
  pub changes : Changes change k.down later.down
  pub is : later ≡ record k { clock = max now k.clock; place = suc (suc k.place); pumps = k.pumps - 1; down = later.down }
