-- Which histories are possible, and the one that a list of calls makes. Both are newest first.
use Rattle.std.specs.Prelude.{ℕ, ◌≡◌, List, [], ◌∷◌, map}
use Rattle.dispatch_calls.specs.declared.call.Call.{Call}
use Rattle.dispatch_calls.specs.declared.reply.Reply.{Reply}
use Rattle.dispatch_history.specs.History.{History}
use Rattle.dispatch_history.specs.Effect.{Effect, past_of}
use Rattle.dispatch_history.specs.Effects.{effects, step}
use Rattle.dispatch_history.specs.Reply.{reply_to}

-- the reply to a call after a history, for devices on these displays
abbrev pub reply : List ℕ → History → Call → Reply
reply displays h call = reply_to (effects displays h) call

-- a history is legal if each call has the reply that the history before it requires
abbrev pub Legal : List ℕ → History → Type 0
Legal displays [] = Unit {0}
Legal displays (e ∷ h) = (e.1 ≡ reply displays h e.0) × Legal displays h

-- the calls of a history
abbrev pub calls_of : History → List Call
calls_of h = map (λ e. e.0) h

-- one more call, with the required reply
abbrev pub answered : List ℕ → Call → List Effect → List Effect
answered displays call before = step displays call (reply_to before call) before

-- the effects of a list of calls, each with the required reply
abbrev pub run : List ℕ → List Call → List Effect
run displays [] = []
run displays (call ∷ before) = answered displays call (run displays before)

-- the replay of a list of calls: its one legal history
abbrev pub replay : List ℕ → List Call → History
replay displays calls = past_of (run displays calls)
