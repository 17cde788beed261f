-- The reply to each call, computed from what is kept.
use Rattle.std.specs.Prelude.{◌≡◌, ◌≤◌, ℕ, max, true, not, ◌==◌, ◌&&◌, List, filter, if◌then◌else◌}
use Rattle.std.specs.List.{list_any}
use Rattle.input_types.specs.DeviceRule.{device_of}
use Rattle.window_snapshot.specs.Mask.{mask_has}
use Rattle.window_snapshot.specs.Window.{is_spy}
use Rattle.dispatcher.specs.InboundArgs.Down.{state_at}
use Rattle.dispatcher.specs.InputChannel.State.{next_of, may_finish}
use Rattle.route_split.specs.Tables.{any_at}
use Rattle.dispatch_calls.specs.declared.call.Call.{Call}
use Rattle.dispatch_calls.specs.declared.call.Call.TheVariants.{Open, Windows, FocusOn, Notify, Pump, Tick, Receive, Finish, Pilfer, Remove}
use Rattle.dispatch_calls.specs.declared.reply.Reply.{Reply}
use Rattle.dispatch_calls.specs.declared.reply.Reply.TheVariants.{Done, Named, Gone, UnknownSeq, NotSpy, NothingHeld}
use Rattle.dispatch_history.specs.Due.{mask_of}
use Rattle.dispatch_history.specs.History.{live, received}
use Rattle.dispatch_history.specs.Effect.{Effect, past_of}
use Rattle.dispatch_history.specs.Effects.{channels}
use Rattle.dispatch_history.specs.Reply.{open_reply, notify_reply, pump_reply, got_reply, is_due}
use Rattle.dispatcher.specs.DispatchTables.Delivery.{Delivery, due_kept}
use Rattle.dispatcher.specs.Knows.{Kept, due_again}

-- the channels that are due at a moment, in rising order
abbrev pub late_by : Delivery → ℕ → List ℕ
late_by k at = filter (λ c. is_due (due_kept k c) at) (channels k.count)

-- a message that the owner of a live channel is about to receive was not released; other calls require nothing
abbrev pub MayHand : List Effect → Kept → Call → Type 0
MayHand es k (Receive c) = live (past_of es) c ≡ true → (k.delivery.channel c).gone ≤ received (past_of es) c
MayHand es k call = Unit {0}

-- the reply to each call
abbrev pub reply_by : Kept → Call → Reply
reply_by k (Open terms) = open_reply k.delivery.count
reply_by k (Windows now shown) = Done
reply_by k (FocusOn now display channel keys) = Done
reply_by k (Notify now args) = notify_reply (state_at k.queue.down (device_of args)) args
reply_by k (Pump now) = pump_reply k.queue.waiting (due_again k) (max now k.queue.clock)
reply_by k (Tick now) = Named (mask_of (late_by k.delivery (max now k.queue.clock)))
reply_by k (Receive c) = if not (mask_has k.delivery.live c) then Gone else got_reply (next_of (k.delivery.channel c))
reply_by k (Finish now c seq) =
    if not (mask_has k.delivery.live c) then Gone else if may_finish seq (k.delivery.channel c) then Done else UnknownSeq
reply_by k (Pilfer now c d) =
    if not (mask_has k.delivery.live c) then Gone
    else if not (list_any (λ v. v.channel == c && is_spy v) k.shown.windows) then NotSpy
    else if any_at k.touches c d then Done else NothingHeld
reply_by k (Remove now c) = if mask_has k.delivery.live c then Done else Gone

-- args that are handed in are of one of the devices 1 to 8
abbrev pub IsOfDevice : Call → Type 0
IsOfDevice (Notify now args) = (1 ≤ device_of args) × (device_of args ≤ 8)
IsOfDevice call = Unit {0}
