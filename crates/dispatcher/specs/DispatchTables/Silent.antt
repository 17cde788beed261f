-- Which steps send a channel nothing, whatever it holds.
use Rattle.std.specs.Prelude.{ℕ, Bool, true, false, not}
use Rattle.window_snapshot.specs.Mask.{mask_has}
use Rattle.dispatch_calls.specs.declared.call.Call.{Call}
use Rattle.dispatch_calls.specs.declared.call.Call.TheVariants.{Open, Notify, Pump, Tick, Receive, Finish, Pilfer, Remove}
use Rattle.dispatch_calls.specs.declared.reply.Reply.{Reply}
use Rattle.dispatch_calls.specs.declared.reply.Reply.TheVariants.{Full, Done, Idle, Named, Got, Gone}

-- A receive, a finish, a notify, a pump with nothing to dispatch and a refused call send nothing. A tick sends only
-- to the channels that it reports.
abbrev pub is_silent : Call → Reply → (channel : ℕ) → Bool
is_silent (Receive channel) answer c = true
is_silent (Finish now channel seq) answer c = true
is_silent (Notify now args) answer c = true
is_silent (Pump now) Idle c = true
is_silent (Tick now) (Named mask) c = not (mask_has mask c)
is_silent (Pilfer now channel device) Done c = false
is_silent (Pilfer now channel device) answer c = true
is_silent (Remove now channel) Gone c = true
is_silent (Open terms) Full c = true
is_silent call answer c = false

-- A notify, a refused call, a pump with nothing to dispatch and a receive of nothing leave all channels as they are.
abbrev pub is_no_op : Call → Reply → Bool
is_no_op call (Named mask) = false
is_no_op (Notify now args) answer = true
is_no_op (Receive channel) (Got m) = false
is_no_op (Receive channel) answer = true
is_no_op (Finish now channel seq) Done = false
is_no_op (Finish now channel seq) answer = true
is_no_op (Pilfer now channel device) Done = false
is_no_op (Pilfer now channel device) answer = true
is_no_op (Pump now) Idle = true
is_no_op (Remove now channel) Gone = true
is_no_op (Open terms) Full = true
is_no_op call answer = false
