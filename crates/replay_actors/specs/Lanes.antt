-- What each lane of a race does: its own calls, newest first, each with its place in the history and its reply.
use Rattle.std.specs.Prelude.{ℕ, ◌+◌, ◌==◌, ◌&&◌, nat_le, Bool, List, [], ◌∷◌, map, if◌then◌else◌}
use Rattle.input_types.specs.declared.message.Args.{Args}
use Rattle.dispatch_calls.specs.declared.call.Call.{Call}
use Rattle.dispatch_calls.specs.declared.call.Call.TheVariants.{Notify, Pump, Tick, Receive, Finish}
use Rattle.dispatch_calls.specs.declared.reply.Reply.{Reply}
use Rattle.dispatch_calls.specs.declared.reply.Reply.TheVariants.{Idle, Got}

-- a call of a lane: its place, the call and the reply
abbrev pub Own : Type 0
Own = ℕ × Call × Reply

-- the calls without their places and replies
abbrev pub calls_made : List Own → List Call
calls_made own = map (λ e. e.1) own

-- the calls that hand in some args, each at its moment
abbrev pub notifies : List (ℕ × Args) → List Call
notifies cooked = map (λ a. Notify a.0 a.1) cooked

-- the state of the dispatcher: it pumps next, after so many idle answers; it ticks next; or it made a call that was not due
pub data Pumping : Type 0 where
  pumps : ℕ → Pumping
  ticks : ℕ → Pumping
  strays : Pumping

-- after an idle answer to a pump it pumps again, after any other answer it ticks
abbrev pub after_pump : ℕ → Reply → Pumping
after_pump n Idle = pumps (n + 1)
after_pump n reply = ticks n

-- one call of the dispatcher, at moment 0
abbrev pub pumping_then : Pumping → Call → Reply → Pumping
pumping_then (pumps n) (Pump now) reply = if now == 0 then after_pump n reply else strays
pumping_then (ticks n) (Tick now) reply = if now == 0 then pumps n else strays
pumping_then stage call reply = strays

-- the state of the dispatcher after its calls
abbrev pub pumping : List Own → Pumping
pumping [] = pumps 0
pumping (e ∷ own) = pumping_then (pumping own) e.1 e.2

-- the state of an application: it receives from this channel next, after so many answers without a message; it first finishes a message of
-- the channel; or it made a call that was not due
pub data Receiving : Type 0 where
  receives : (idle channel : ℕ) → Receiving
  owes : (idle channel seq : ℕ) → Receiving
  strays_off : Receiving

-- the channels of application j are every fourth one from j + 1 on, again and again
abbrev pub next_channel : ℕ → ℕ → ℕ → ℕ
next_channel channels j c = if nat_le (c + 4) channels then c + 4 else j + 1

module _ (finishing : ℕ → Bool) (channels j : ℕ) where
  -- after a message of a channel that finishes it finishes that, after any other answer it goes on
  abbrev pub after_receive : ℕ → ℕ → Reply → Receiving
  after_receive n c (Got m) = if finishing c then owes n c m.seq else receives n (next_channel channels j c)
  after_receive n c reply = receives (n + 1) (next_channel channels j c)

  -- one call of an application
  abbrev pub receiving_then : Receiving → Call → Reply → Receiving
  receiving_then (receives n c) (Receive d) reply = if d == c then after_receive n c reply else strays_off
  receiving_then (owes n c seq) (Finish now d s) reply =
      if now == 0 && d == c && s == seq then receives n (next_channel channels j c) else strays_off
  receiving_then stage call reply = strays_off

  -- where application j stands after its calls
  abbrev pub receiving : List Own → Receiving
  receiving [] = receives 0 (j + 1)
  receiving (e ∷ own) = receiving_then (receiving own) e.1 e.2
