-- The tables, and the histories that they stand for.
use Rattle.std.specs.Prelude.{◌≡◌, ◌≤◌, ◌<◌, ◌+◌, ◌-◌, ◌^◌, ℕ, max, Bool, true, false, List, slice_get, Option}
use Rattle.dispatch_calls.specs.declared.call.Call.{Call}
use Rattle.dispatch_calls.specs.declared.call.Call.TheVariants.{Notify, Pump, Receive}
use Rattle.dispatch_calls.specs.declared.reply.Reply.{Reply}
use Rattle.dispatch_calls.specs.declared.reply.Reply.TheVariants.{Taken, Dispatched}
use Rattle.input_types.specs.declared.message.Args.{Args}
use Rattle.dispatcher.specs.DispatchChannels.Table.{Table, channel_of, but_for_room, NoLessRoom}
use Rattle.dispatch_history.specs.Effect.{Effect}
use Rattle.dispatch_history.specs.Effects.{step}
use Rattle.dispatch_history.specs.History.{moment_of}
use Rattle.dispatch_history.specs.Reply.{reply_to}
use Rattle.dispatcher.specs.Knows.{Kept}
use Rattle.dispatcher.specs.Knows.{KeptStandsFor}
use Rattle.dispatcher.specs.Queue.{Queue, QueueGoes}
use Rattle.dispatcher.specs.Queueing.{args_in}
use Rattle.dispatcher.specs.declared.tables.Routing.{Routing}
use Rattle.dispatcher.specs.declared.tables.Tables.{Tables}
use Rattle.dispatcher.specs.Seen.{kept_of}
use Rattle.key_repeat.specs.Due.{due_by}
use Rattle.dispatcher.specs.DispatchTables.Delivery.{repeats_kept}
use Rattle.dispatcher.specs.Staying.{delivery_of}

-- what is kept, with the room that the channels have
abbrev pub kept : Queue → Routing → Kept
kept q r = kept_of q r.shown r.touches r.covers r.channels r.focus r.repeat

-- when the last key message must be repeated, by the tables
abbrev pub due_repeat : Routing → Option ℕ
due_repeat r = due_by (repeats_kept (delivery_of r.channels)) r.repeat

-- the tables stand for a legal history with these effects
abbrev pub TablesStandFor : List Effect → Tables → Type 0
TablesStandFor es t = KeptStandsFor t.routing.displays es (kept t.queueing t.routing)

-- no message of any channel is released, and no ANR
pub record ReleasesNone (old new : Table) : Type 0 where
  pub of_channels : (c : ℕ) → 1 ≤ c → (channel_of new c).gone ≡ (channel_of old c).gone
  pub of_anrs : new.anrs.gone ≡ old.anrs.gone

-- The routing tables made a step with this call and answer, at this index and with this clock after it. Once the queue has made the same step,
-- queue and tables stand for the history with that step added. The call is a function of its moment.
pub record Goes (call : ℕ → Call) (answer : Reply) (place clock : ℕ) (old new : Routing) : Type 0 where
  pub after :
      (es : List Effect) (now : ℕ) (queue later : Queue)
      → queue.place ≡ place → max (moment_of (call now)) queue.clock ≡ clock
      → KeptStandsFor old.displays es (kept queue old) → QueueGoes (call now) answer queue later
      → KeptStandsFor old.displays (step old.displays (call now) answer es) (kept later new)
  pub displays_are : new.displays ≡ old.displays
  pub gone_are : ReleasesNone old.channels new.channels

-- the same for a pump, if these args are the first that wait, or if none wait
pub record Pumps (first : Option Args) (answer : Reply) (place clock : ℕ) (old new : Routing) : Type 0 where
  pub after :
      (es : List Effect) (now : ℕ) (queue later : Queue)
      → slice_get queue.waiting 0 ≡ first → queue.place ≡ place → max now queue.clock ≡ clock
      → KeptStandsFor old.displays es (kept queue old) → QueueGoes (Pump now) answer queue later
      → KeptStandsFor old.displays (step old.displays (Pump now) answer es) (kept later new)
  pub displays_are : new.displays ≡ old.displays
  pub gone_are : ReleasesNone old.channels new.channels

-- The owner of a channel receives its next message, if there is one: the routing tables made a step with the required answer, whether
-- or not that message was released.
pub record HandsOn (channel : ℕ) (old new : Routing) : Type 0 where
  pub after :
      (es : List Effect) (answer : Reply) (queue later : Queue)
      → KeptStandsFor old.displays es (kept queue old) → answer ≡ reply_to es (Receive channel)
      → QueueGoes (Receive channel) answer queue later
      → KeptStandsFor old.displays (step old.displays (Receive channel) answer es) (kept later new)
  pub displays_are : new.displays ≡ old.displays
  pub gone_are : ReleasesNone old.channels new.channels

-- The tables are the same except for the room of the channels and of the list for cancelled keys, which did not shrink.
abbrev pub SameButRoom : (old new : Routing) → Type 0
SameButRoom old new =
    let bare : Routing → Routing = λ r. record r { channels = but_for_room r.channels; cancelled = 0 } in
    (bare new ≡ bare old) × NoLessRoom old.channels new.channels × (old.cancelled ≤ new.cancelled)

-- the tables may make a step: they stand for some history, and the number of its steps is below the greatest number
pub record MayStep (t : Tables) : Type 0 where
  pub history : List Effect
  pub stands : TablesStandFor history t
  pub place : t.queueing.place < 2 ^ 64 - 1

-- the call hands in no args, and dispatches none
abbrev pub is_routed : Call → Bool
is_routed (Notify now args) = false
is_routed (Pump now) = false
is_routed call = true

-- All tables made a step: they stand for every history that they stood for, with this step added. Only args that are handed in use the
-- room for args.
pub record GoesOn (call : Call) (answer : Reply) (old new : Tables) : Type 0 where
  pub after : (es : List Effect) → TablesStandFor es old → TablesStandFor (step old.routing.displays call answer es) new
  pub displays_are : new.routing.displays ≡ old.routing.displays
  pub gone_are : ReleasesNone old.routing.channels new.routing.channels
  pub room_is : old.queueing.spare ≤ new.queueing.spare + args_in call

-- args are handed in and then dispatched, in two steps, between which only the queue differs
pub record GoesThrough (now : ℕ) (args : Args) (old new : Tables) : Type 0 where
  pub between : Queue
  pub notified : GoesOn (Notify now args) Taken old (record old { queueing = between })
  pub pumped : GoesOn (Pump now) Dispatched (record old { queueing = between }) new

-- all tables are the same except for that room
pub record SameAll (old new : Tables) : Type 0 where
  pub queueing_is : new.queueing ≡ old.queueing
  pub routing_is : SameButRoom old.routing new.routing
