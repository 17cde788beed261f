-- How many calls of a race find something to do, and how many find nothing.
use Rattle.std.specs.Prelude.{ℕ, suc, [], ◌∷◌}
use Rattle.dispatch_calls.specs.declared.call.Call.{Call}
use Rattle.dispatch_calls.specs.declared.call.Call.TheVariants.{Pump, Tick, Receive}
use Rattle.dispatch_calls.specs.declared.reply.Reply.{Reply}
use Rattle.dispatch_calls.specs.declared.reply.Reply.TheVariants.{Dispatched, Repeated, Idle, Empty, Gone}
use Rattle.dispatch_history.specs.History.{History}

-- a tick is one more
abbrev pub ticks_after : Call → ℕ → ℕ
ticks_after (Tick now) n = suc n
ticks_after call n = n

-- how many ticks a history has
abbrev pub ticks : History → ℕ
ticks [] = 0
ticks (e ∷ h) = ticks_after e.0 (ticks h)

-- a pump that dispatches args or repeats a key is one more
abbrev pub moves_after : Call → Reply → ℕ → ℕ
moves_after (Pump now) Dispatched n = suc n
moves_after (Pump now) Repeated n = suc n
moves_after call reply n = n

-- how many pumps dispatched args or repeated a key
abbrev pub moves : History → ℕ
moves [] = 0
moves (e ∷ h) = moves_after e.0 e.1 (moves h)

-- a pump for which nothing waits, or a receive where there is nothing to receive, is one more
abbrev pub idles_after : Call → Reply → ℕ → ℕ
idles_after (Pump now) Idle n = suc n
idles_after (Receive channel) Empty n = suc n
idles_after (Receive channel) Gone n = suc n
idles_after call reply n = n

-- how many pumps and receives found nothing
abbrev pub idles : History → ℕ
idles [] = 0
idles (e ∷ h) = idles_after e.0 e.1 (idles h)
