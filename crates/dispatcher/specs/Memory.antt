-- Which calls need no memory.
use Rattle.std.specs.Prelude.{◌≡◌, ◌<◌, ◌-◌, ◌^◌, ℕ, List, [], ◌∷◌, length}
use Rattle.dispatch_calls.specs.declared.call.Call.{Call}
use Rattle.dispatch_calls.specs.declared.call.Call.TheVariants.{FocusOn, Pump, Tick, Receive, Finish, Remove}
use Rattle.dispatch_calls.specs.declared.reply.Reply.TheVariants.{Done, Idle}
use Rattle.dispatch_history.specs.Due.{named}
use Rattle.dispatch_history.specs.Effect.{Effect, past_of}
use Rattle.dispatch_history.specs.Focus.{has_focus, key_target}
use Rattle.dispatch_history.specs.History.{History}
use Rattle.dispatch_history.specs.Reply.{reply_to}

-- after both histories the same windows have the focus, and keys go to the same one
pub record SameFocus (before after : History) : Type 0 where
  pub focus_is : (w : ℕ) → has_focus after w ≡ has_focus before w
  pub target_is : key_target after ≡ key_target before

-- Owners that receive or finish, a removal, a request that changes neither who has the focus nor where keys go, a tick that reports
-- nobody and a pump that is idle need no memory.
abbrev pub IsCalm : List Effect → Call → Type 0
IsCalm es (Receive channel) = Unit {0}
IsCalm es (Finish now channel seq) = Unit {0}
IsCalm es (Remove now channel) = Unit {0}
IsCalm es (FocusOn now display channel keys) = SameFocus (past_of es) ((FocusOn now display channel keys, Done) ∷ past_of es)
IsCalm es (Tick now) = named es now ≡ []
IsCalm es (Pump now) = reply_to es (Pump now) ≡ Idle
IsCalm es call = ⊥

-- there are not so many steps that the next one could not be counted in 64 bits
abbrev pub MayCount : List Effect → Type 0
MayCount es = length es < 2 ^ 64 - 1
