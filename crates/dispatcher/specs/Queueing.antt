-- How calls change the clock, the count of steps and the queue of args.
use Rattle.std.specs.Prelude.{ℕ, Bool, true, false, suc, max, drop}
use Rattle.dispatch_calls.specs.declared.call.Call.{Call}
use Rattle.dispatch_calls.specs.declared.call.Call.TheVariants.{Notify, Pump}
use Rattle.dispatcher.specs.Queue.{Queue}

-- one more step, which hands in a moment: the clock advances to it if it is later
abbrev pub stepped : ℕ → Queue → Queue
stepped now q = record q { clock = max now q.clock; place = suc q.place }

-- one more step, which dispatches the first args that wait
abbrev pub dispatched : ℕ → Queue → Queue
dispatched now q = record q { clock = max now q.clock; place = suc q.place; waiting = drop 1 q.waiting }

-- room for n pumps
abbrev pub with_pumps : ℕ → Queue → Queue
with_pumps n q = record q { pumps = n }

-- room for at least n more args
abbrev pub with_args_room : ℕ → Queue → Queue
with_args_room n q = record q { spare = max n q.spare }

-- room for at least n more args, and for at least n pumps
abbrev pub with_room : ℕ → Queue → Queue
with_room n q = record q { spare = max n q.spare; pumps = max n q.pumps }

-- the call is one for which room is reserved
abbrev pub is_input : Call → Bool
is_input (Notify now args) = true
is_input (Pump now) = true
is_input call = false

-- the call dispatches what waits
abbrev pub is_pump : Call → Bool
is_pump (Pump now) = true
is_pump call = false

-- how many args a call hands in, for which it needs room
abbrev pub args_in : Call → ℕ
args_in (Notify now args) = 1
args_in call = 0
