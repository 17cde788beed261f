-- Steps that change nothing, or the channels alone.
use Rattle.std.specs.Prelude.{◌≡◌}
use Rattle.dispatch_calls.specs.declared.call.Call.{Call}
use Rattle.dispatch_calls.specs.declared.reply.Reply.{Reply}
use Rattle.dispatcher.specs.DispatchChannels.Table.{Table, opened, channel_of}
use Rattle.dispatcher.specs.DispatchTables.Delivery.{Delivery}
use Rattle.dispatcher.specs.Queue.{QueueGoes}
use Rattle.dispatcher.specs.Knows.{Kept}

-- what is kept of the delivery, by the table of the channels
abbrev pub delivery_of : Table → Delivery
delivery_of t = record { count = opened t; channel = channel_of t; live = t.live; able = t.able; noted = t.anrs }

-- The step changes the queue, and perhaps the channels. The windows, who holds what, what lies over windows, the focus, the last key message,
-- and what is still down in the stream of each window stay.
pub record StaysBut (call : Call) (answer : Reply) (k later : Kept) : Type 0 where
  pub queue : QueueGoes call answer k.queue later.queue
  pub shown_is : later.shown ≡ k.shown
  pub touches_are : later.touches ≡ k.touches
  pub covers_are : later.covers ≡ k.covers
  pub inputs_are : later.inputs ≡ k.inputs
  pub focus_is : later.focus ≡ k.focus
  pub repeat_is : later.repeat ≡ k.repeat

-- the channels stay too
pub record Stays (call : Call) (answer : Reply) (k later : Kept) : Type 0 where
  pub but : StaysBut call answer k later
  pub delivery_is : later.delivery ≡ k.delivery
