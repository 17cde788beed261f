-- The reply that each call must have.
use Rattle.std.specs.Prelude.{ℕ, ◌+◌, ◌^◌, max, Bool, false, not, ◌==◌, ◌&&◌, nat_lt, nat_le, List, [], ◌∷◌, is_some, reverse, slice_get, sum_by, Option, Some, None, if◌then◌else◌}
use Rattle.std.specs.List.{list_any}
use Rattle.input_types.specs.declared.message.Args.{Args}
use Rattle.input_types.specs.declared.message.Args.TheVariants.{Key}
use Rattle.input_types.specs.declared.message.Message.{Message}
use Rattle.input_types.specs.DeviceRule.{DeviceState, after_args, device_of}
use Rattle.window_snapshot.specs.Window.{is_spy}
use Rattle.dispatch_calls.specs.declared.call.Call.{Call}
use Rattle.dispatch_calls.specs.declared.call.Call.TheVariants.{Open, Windows, FocusOn, Notify, Pump, Tick, Receive, Finish, Pilfer, Remove}
use Rattle.dispatch_calls.specs.declared.reply.Reply.{Reply}
use Rattle.dispatch_calls.specs.declared.reply.Reply.TheVariants.{Opened, Full, Done, Taken, Inconsistent, Dispatched, Repeated, Idle, Named, Got, Empty, Gone, UnknownSeq, NotSpy, NothingHeld}
use Rattle.routing_rules.specs.Pairs.{has_any}
use Rattle.routing_rules.specs.Marks.{held}
use Rattle.dispatch_history.specs.History.{clock, opened, live, snapshot, received}
use Rattle.dispatch_history.specs.Queue.{inbound, down_on}
use Rattle.dispatch_history.specs.Effect.{Effect, past_of, stream}
use Rattle.dispatch_history.specs.Delivery.{published, is_finished}
use Rattle.dispatch_history.specs.KeySent.{repeat_due}
use Rattle.dispatch_history.specs.Step.{marks}
use Rattle.dispatch_history.specs.Due.{named, mask_of}

-- a channel is opened with the next number, until 64 were opened
abbrev pub open_reply : ℕ → Reply
open_reply count = if nat_lt count 64 then Opened (count + 1) else Full

-- ids as a set of bits
abbrev pub id_bits : List ℕ → ℕ
id_bits ids = sum_by (λ i. 2 ^ i) ids

-- the args are of a key that is down on their device
abbrev pub is_down : DeviceState → Args → Bool
is_down s (Key k) = s.keys k.scan
is_down s args = false

-- args are accepted exactly if they may follow what is down on their device
abbrev pub notify_reply : DeviceState → Args → Reply
notify_reply s args = if is_some (after_args s args) then Taken else Inconsistent (id_bits s.ids) (is_down s args)

-- a repeat is due at or before the moment
abbrev pub is_due : Option ℕ → ℕ → Bool
is_due None now = false
is_due (Some at) now = nat_le at now

-- the first waiting args are dispatched; if none wait, a repeat that is due is made
abbrev pub pump_reply : List Args → Option ℕ → ℕ → Reply
pump_reply (a ∷ waiting) due now = Dispatched
pump_reply [] due now = if is_due due now then Repeated else Idle

-- the owner receives this message, if there is one
abbrev pub got_reply : Option Message → Reply
got_reply None = Empty
got_reply (Some m) = Got m

-- the owner of a live channel receives its next message, if that is published
abbrev pub receive_reply : List Effect → ℕ → Reply
receive_reply es c =
    let n = received (past_of es) c in
    if not (live (past_of es) c) then Gone
    else if nat_lt n (published es c) then got_reply (slice_get (reverse (stream es c)) n) else Empty

-- a message that was received and is not finished can be finished
abbrev pub finish_reply : List Effect → ℕ → ℕ → Reply
finish_reply es c seq =
    if not (live (past_of es) c) then Gone
    else if nat_le 1 seq && nat_le seq (received (past_of es) c) && not (is_finished (past_of es) c seq) then Done
    else UnknownSeq

-- a spy that holds something of the device can pilfer it
abbrev pub pilfer_reply : List Effect → ℕ → ℕ → Reply
pilfer_reply es c d =
    if not (live (past_of es) c) then Gone
    else if not (list_any (λ v. v.channel == c && is_spy v) (snapshot (past_of es))) then NotSpy
    else if has_any (held (marks es)) c d then Done else NothingHeld

-- the reply to a call after a history with these effects
abbrev pub reply_to : List Effect → Call → Reply
reply_to es (Open terms) = open_reply (opened (past_of es))
reply_to es (Windows now shown) = Done
reply_to es (FocusOn now display channel keys) = Done
reply_to es (Notify now args) = notify_reply (down_on (past_of es) (device_of args)) args
reply_to es (Pump now) = pump_reply (inbound (past_of es)) (repeat_due es) (max now (clock (past_of es)))
reply_to es (Tick now) = Named (mask_of (named es now))
reply_to es (Receive channel) = receive_reply es channel
reply_to es (Finish now channel seq) = finish_reply es channel seq
reply_to es (Pilfer now channel device) = pilfer_reply es channel device
reply_to es (Remove now channel) = if live (past_of es) channel then Done else Gone
