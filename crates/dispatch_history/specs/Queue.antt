-- The args that devices hand in: accepted first, and dispatched later in the same order.
use Rattle.std.specs.Prelude.{ℕ, suc, List, [], ◌∷◌, reverse, drop, slice_get, Option, None, unwrap_or}
use Rattle.input_types.specs.declared.message.Args.{Args}
use Rattle.input_types.specs.DeviceRule.{DeviceState, device_state, nothing_down}
use Rattle.dispatch_calls.specs.declared.call.Call.{Call}
use Rattle.dispatch_calls.specs.declared.call.Call.TheVariants.{Notify, Pump}
use Rattle.dispatch_calls.specs.declared.reply.Reply.{Reply}
use Rattle.dispatch_calls.specs.declared.reply.Reply.TheVariants.{Taken, Dispatched}
use Rattle.dispatch_history.specs.History.{History}

-- args that are accepted count as one more
abbrev pub accepted_after : Call → Reply → List Args → List Args
accepted_after (Notify now args) Taken before = args ∷ before
accepted_after call reply before = before

-- the args that were accepted, newest first
abbrev pub accepted : History → List Args
accepted [] = []
accepted (e ∷ h) = accepted_after e.0 e.1 (accepted h)

-- a pump that dispatches takes one
abbrev pub dispatches_after : Call → Reply → ℕ → ℕ
dispatches_after (Pump now) Dispatched before = suc before
dispatches_after call reply before = before

-- how many args were dispatched
abbrev pub dispatches : History → ℕ
dispatches [] = 0
dispatches (e ∷ h) = dispatches_after e.0 e.1 (dispatches h)

-- the args that wait, the next one first: those that were accepted and not yet dispatched
abbrev pub inbound : History → List Args
inbound h = drop (dispatches h) (reverse (accepted h))

-- what a step dispatches: the first waiting args before it
abbrev pub args_of : Call → Reply → List Args → Option Args
args_of (Pump now) Dispatched waiting = slice_get waiting 0
args_of call reply waiting = None

-- what is down on a device according to the accepted args
abbrev pub down_on : History → ℕ → DeviceState
down_on h d = unwrap_or (device_state d (accepted h)) nothing_down
