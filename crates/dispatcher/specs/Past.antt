-- A Move that bypasses the channels, step by step.
use Rattle.std.specs.Prelude.{◌≡◌, ◌≤◌, ◌+◌, ℕ, max, if◌then◌else◌, List, ◌∷◌, Some, slice_get}
use Rattle.input_types.specs.declared.message.Args.TheVariants.{Motion as MotionArgs}
use Rattle.input_types.specs.declared.message.Message.{Message}
use Rattle.input_types.specs.declared.motion.Motion.{Motion}
use Rattle.dispatcher.specs.InputChannel.Moves.{moves_from}
use Rattle.routing_rules.specs.Cover.{flags_of}
use Rattle.window_snapshot.specs.Mask.{mask_has}
use Rattle.dispatcher.specs.WindowCovers.Covers.{cover_in}
use Rattle.dispatcher.specs.CancelSynthesis.Tracked.{pointers_of}
use Rattle.dispatch_calls.specs.declared.call.Call.TheVariants.{Notify, Pump}
use Rattle.dispatch_calls.specs.declared.reply.Reply.TheVariants.{Taken, Dispatched}
use Rattle.dispatcher.specs.DispatchChannels.Table.{Table, channel_of, input_of}
use Rattle.dispatch_history.specs.Effect.{Effect, past_of, stream}
use Rattle.dispatch_history.specs.Effects.{step}
use Rattle.dispatch_history.specs.History.{origin}
use Rattle.dispatcher.specs.declared.tables.Routing.{Routing}
use Rattle.dispatcher.specs.declared.tables.Tables.{Tables}
use Rattle.dispatcher.specs.Knows.{KeptStandsFor}
use Rattle.dispatcher.specs.Queue.{Queue, QueueGoes}
use Rattle.dispatcher.specs.Tables.{GoesOn, TablesStandFor, kept}

-- the message of a Move that a channel was sent last, made from what is kept of its window
abbrev pub moved_last : List Effect → (device clock : ℕ) → Routing → (c : ℕ) → Message
moved_last es device clock r c =
    record {
      seq = (channel_of r.channels c).gone;
      moment = clock;
      body = moves_from (origin (past_of es) c) device (flags_of (cover_in r.covers c device)) (pointers_of (input_of r.channels c) device);
    }

-- each channel of a mask was sent one more message, which is released
abbrev pub ReleasesSent : (sent : ℕ) → (old new : Table) → Type 0
ReleasesSent sent old new =
    (c : ℕ) → 1 ≤ c → (channel_of new c).gone ≡ (if mask_has sent c then (channel_of old c).gone + 1 else (channel_of old c).gone)

-- the stream of each channel ends with what it was sent
abbrev pub Streams : (es later : List Effect) → (device sent clock : ℕ) → Routing → Type 0
Streams es later device sent clock r =
    (c : ℕ) → 1 ≤ c
    → stream later c ≡ (if mask_has sent c then moved_last es device clock r c ∷ stream es c else stream es c)

-- A Move that waits first is dispatched as by a pump, but its messages are released at once.
pub record PumpsPast (m : Motion) (sent place clock : ℕ) (old new : Routing) : Type 0 where
  pub after :
      (es : List Effect) (now : ℕ) (queue later : Queue)
      → slice_get queue.waiting 0 ≡ Some (MotionArgs m) → queue.place ≡ place → max now queue.clock ≡ clock
      → KeptStandsFor old.displays es (kept queue old) → QueueGoes (Pump now) Dispatched queue later
      → KeptStandsFor old.displays (step old.displays (Pump now) Dispatched es) (kept later new)
      × Streams es (step old.displays (Pump now) Dispatched es) m.device sent clock new
  pub displays_are : new.displays ≡ old.displays
  pub releases : ReleasesSent sent old.channels new.channels
  pub anrs_are : new.channels.anrs.gone ≡ old.channels.anrs.gone

-- a Move is handed in and bypasses the channels: between the two steps only the queue differs
pub record GoesPast (now : ℕ) (m : Motion) (sent : ℕ) (old new : Tables) : Type 0 where
  pub between : Queue
  pub notified : GoesOn (Notify now (MotionArgs m)) Taken old (record old { queueing = between })
  pub pumped :
      (es : List Effect) → TablesStandFor es (record old { queueing = between })
      → TablesStandFor (step old.routing.displays (Pump now) Dispatched es) new
      × Streams es (step old.routing.displays (Pump now) Dispatched es) m.device sent (max now between.clock) new.routing
  pub displays_are : new.routing.displays ≡ old.routing.displays
  pub releases : ReleasesSent sent old.routing.channels new.routing.channels
  pub anrs_are : new.routing.channels.anrs.gone ≡ old.routing.channels.anrs.gone
  pub room_is : between.spare ≤ new.queueing.spare
