-- Calls made one after another, as long as there is a next one.
use Rattle.std.specs.Prelude.{ℕ, ◌≡◌, ◌||◌, Bool, false, nat_le, nat_lt, min, List, [], ◌∷◌, length, Option, Some, None, option_map, if◌then◌else◌}
use Rattle.dispatch_calls.specs.declared.call.Call.{Call}
use Rattle.dispatch_calls.specs.declared.call.Call.TheVariants.{Pump, Tick, Receive, Finish}
use Rattle.dispatch_history.specs.Delivery.{is_reported_by, oldest}
use Rattle.dispatch_history.specs.Due.{first_due}
use Rattle.dispatch_history.specs.Effect.{Effect, past_of, stream}
use Rattle.dispatch_history.specs.History.{received}
use Rattle.dispatch_history.specs.KeySent.{repeat_due}
use Rattle.dispatch_history.specs.Legal.{answered}
use Rattle.dispatch_history.specs.Ordered.{extend}
use Rattle.dispatch_history.specs.Reply.{reply_to}
use Rattle.dispatcher.specs.Access.{any_waits, is_waiting, next_repeat}
use Rattle.live_input.specs.Standing.{LiveIs}
use Rattle.live_input.specs.State.{LiveState}

-- each of these calls, made in order, is the next one when it is made
abbrev pub Follows : (List Effect → Option Call) → List ℕ → List Effect → List Call → Type 0
Follows next displays es [] = Unit {0}
Follows next displays es (call ∷ calls) = (next es ≡ Some call) × Follows next displays (answered displays call es) calls

-- the service stands for a history with some more such calls
pub record Reaches (displays : List ℕ) (next : List Effect → Option Call) (es : List Effect) (s : LiveState) : Type 0 where
  pub calls : List Call
  pub follows : Follows next displays es calls
  pub is : LiveIs displays (extend displays es calls) s

-- and there is no next call
pub record Settles (displays : List ℕ) (next : List Effect → Option Call) (es : List Effect) (s : LiveState) : Type 0 where
  pub reached : Reaches displays next es s
  pub done : next (extend displays es reached.calls) ≡ None

-- the first waiting args are dispatched next
abbrev pub next_waiting : (now : ℕ) → List Effect → Option Call
next_waiting now es = if is_waiting es then Some (Pump now) else None

-- If the owner received the oldest published and unfinished message, it is finished next. Otherwise the next message
-- is received, if there is one.
abbrev pub left_call : (now channel received sent : ℕ) → (oldest : Option ℕ) → Option Call
left_call now c received sent None = if nat_lt received sent then Some (Receive c) else None
left_call now c received sent (Some seq) =
    if nat_le seq received then Some (Finish now c seq) else if nat_lt received sent then Some (Receive c) else None

-- what is left to do on a channel, until all of its messages are received and finished
abbrev pub next_left : (now channel : ℕ) → List Effect → Option Call
next_left now c es =
    left_call now c (received (past_of es) c) (length (stream es c)) (option_map (λ m. m.seq) (oldest es c))

-- the earlier of two optional moments
abbrev pub sooner : Option ℕ → Option ℕ → Option ℕ
sooner None at = at
sooner (Some t) None = Some t
sooner (Some t) (Some u) = Some (min t u)

-- when the first channel is due to be reported unresponsive
abbrev pub timeout : List Effect → Option ℕ
timeout es = option_map (λ d. d.moment) (first_due es)

-- something waits for memory: args to be handed in, or to be dispatched
abbrev pub waits : List Effect → LiveState → Bool
waits es s = is_waiting es || any_waits s.pending

-- the first moment at which something is due: the clock while something waits, otherwise the first timeout or repeat
abbrev pub due_of : List Effect → LiveState → Option ℕ
due_of es s = if waits es s then Some s.clock else sooner (timeout es) (next_repeat es)

-- a tick at the moment of a timeout, if that is not later than now
abbrev pub tick_by : (now : ℕ) → Option ℕ → Option Call
tick_by now None = None
tick_by now (Some t) = if nat_le t now then Some (Tick t) else None

-- a pump at the moment of a repeat, if that is not later than now
abbrev pub repeat_by : (now : ℕ) → Option ℕ → Option Call
repeat_by now None = None
repeat_by now (Some t) = if nat_le t now then Some (Pump t) else None

-- the earlier of a timeout and a repeat, if that is not later than now; at equal moments the timeout
abbrev pub sooner_call : (now : ℕ) → (timeout repeat : Option ℕ) → Option Call
sooner_call now None repeat = repeat_by now repeat
sooner_call now (Some t) None = tick_by now (Some t)
sooner_call now (Some t) (Some r) = if nat_lt r t then repeat_by now (Some r) else tick_by now (Some t)

-- what is done next of everything due up to now: waiting args are dispatched, or else the earlier of the first
-- timeout and the next repeat
abbrev pub next_due : (now : ℕ) → List Effect → Option Call
next_due now es = if is_waiting es then Some (Pump now) else sooner_call now (timeout es) (repeat_due es)

-- one of these calls reports a channel unresponsive
abbrev pub is_reported_in : List ℕ → List Effect → List Call → ℕ → Bool
is_reported_in displays es [] c = false
is_reported_in displays es (call ∷ calls) c =
    is_reported_by call (reply_to es call) c || is_reported_in displays (answered displays call es) calls c
