-- The calls of a plan in the order of their moments.
use Rattle.std.specs.Prelude.{ℕ, zero, suc, ◌+◌, ◌-◌, max, Bool, true, false, not, ◌==◌, ◌&&◌, nat_lt, nat_le, ◌≡◌, List, [], ◌∷◌, ◌++◌, map, filter, flat_map, fold, replicate, slice_get, length, Option, Some, None, if◌then◌else◌}
use Rattle.dispatch_calls.specs.declared.call.Call.{Call}
use Rattle.dispatch_calls.specs.declared.call.Call.TheVariants.{Windows, FocusOn, Notify, Pump, Tick, Receive, Finish, Pilfer, Remove}
use Rattle.dispatch_calls.specs.declared.reply.Reply.{Reply}
use Rattle.dispatch_calls.specs.declared.reply.Reply.TheVariants.{Got}
use Rattle.dispatch_history.specs.History.{History, moment_of, clock, opened, live, received}
use Rattle.dispatch_history.specs.Queue.{inbound}
use Rattle.dispatch_history.specs.Effect.{Effect, past_of}
use Rattle.dispatch_history.specs.Delivery.{published, is_finished}
use Rattle.dispatch_history.specs.KeySent.{repeat_due}
use Rattle.dispatch_history.specs.Due.{Due, first_due}
use Rattle.dispatch_history.specs.Effects.{channels}
use Rattle.dispatch_history.specs.Legal.{answered}
use Rattle.dispatch_history.specs.Plan.{Plan, ChannelOf, ScriptStep, Cooked}
use Rattle.dispatch_history.specs.Given.{opens}

-- a candidate for the next thing to do: the moment at which it is due, and its calls
pub record Candidate : Type 0 where
  pub moment : ℕ
  pub calls : List Call

-- a call that a script makes
abbrev pub is_scripted : Call → ℕ
is_scripted (Windows now snapshot) = 1
is_scripted (FocusOn now display channel keys) = 1
is_scripted (Pilfer now channel device) = 1
is_scripted (Remove now channel) = 1
is_scripted call = 0

-- a call that hands in args
abbrev pub is_notified : Call → ℕ
is_notified (Notify now args) = 1
is_notified call = 0

-- how many steps of scripts were made
abbrev pub scripted : History → ℕ
scripted [] = 0
scripted (e ∷ h) = is_scripted e.0 + scripted h

-- how many args were handed in
abbrev pub notified : History → ℕ
notified [] = 0
notified (e ∷ h) = is_notified e.0 + notified h

-- the receive of message k of a channel
abbrev pub is_receive_of : Call → Reply → ℕ → ℕ → Bool
is_receive_of (Receive c) (Got m) d k = c == d && m.seq == k
is_receive_of call reply d k = false

-- the clock after the receive of message k of a channel
abbrev pub received_at : History → ℕ → ℕ → ℕ
received_at [] c k = 0
received_at (e ∷ h) c k = if is_receive_of e.0 e.1 c k then clock (e ∷ h) else received_at h c k

-- the earlier of two candidates; if their moments are equal, the first
abbrev pub sooner_of : Option Candidate → Candidate → Option Candidate
sooner_of None c = Some c
sooner_of (Some best) c = Some (if nat_lt c.moment best.moment then c else best)

-- the earliest of some candidates, and at equal moments the first of them
abbrev pub soonest : List Candidate → Option Candidate
soonest cs = fold sooner_of None cs

-- the messages of a channel that were received and are not finished, each with a finish due so long after its receive
abbrev pub finishes_of : History → ℕ → ChannelOf → List Candidate
finishes_of h c p =
    if live h c && p.finishes then
    map (λ k. record { moment = received_at h c k + p.finish_after; calls = Finish (received_at h c k + p.finish_after) c k ∷ [] })
    (filter (λ k. not (is_finished h c k)) (channels (received h c)))
    else []

-- those of all channels, from channel c on
abbrev pub all_finishes : History → ℕ → List ChannelOf → List Candidate
all_finishes h c [] = []
all_finishes h c (p ∷ ps) = finishes_of h c p ++ all_finishes h (c + 1) ps

-- a tick is due with the first due of the channels
abbrev pub due_tick : Option Due → List Candidate
due_tick None = []
due_tick (Some d) = record { moment = d.moment; calls = Tick d.moment ∷ [] } ∷ []

-- a repeat is due at its moment, if no args wait
abbrev pub due_repeat : Bool → Option ℕ → List Candidate
due_repeat true (Some t) = record { moment = t; calls = Pump t ∷ [] } ∷ []
due_repeat idle due = []

-- the next step of a script is due at its moment
abbrev pub next_step : Option ScriptStep → List Candidate
next_step None = []
next_step (Some s) = record { moment = moment_of s.call; calls = s.call ∷ [] } ∷ []

-- the next args are due at their moment: they are handed in, and then dispatched
abbrev pub next_cooked : Option Cooked → List Candidate
next_cooked None = []
next_cooked (Some a) = record { moment = a.moment; calls = Notify a.moment a.args ∷ Pump a.moment ∷ [] } ∷ []

-- all candidates for the next thing to do, in the order that decides between equal moments: finishes, a tick, a
-- repeat, the next step of a script, the next args
abbrev pub candidates : Plan → List Effect → List Candidate
candidates plan es =
    let h = past_of es in
    all_finishes h 1 plan.channels ++ due_tick (first_due es) ++ due_repeat (length (inbound h) == 0) (repeat_due es)
    ++ next_step (slice_get plan.steps (scripted h)) ++ next_cooked (slice_get plan.cooked (notified h))

-- the moment at which a plan ends: that of the plan, of its last step or of its last args, whichever is latest
abbrev pub end_of : Plan → ℕ
end_of plan =
    max plan.until
    (max (fold (λ t s. max t (moment_of s.call)) 0 plan.steps) (fold (λ t a. max t a.moment) 0 plan.cooked))

-- what is done next: the earliest of everything that is due before the plan ends
abbrev pub chosen : Plan → List Effect → Option Candidate
chosen plan es = soonest (filter (λ c. nat_le c.moment (end_of plan)) (candidates plan es))

-- calls in order after earlier ones, each with the required reply
abbrev pub extend : List ℕ → List Effect → List Call → List Effect
extend displays es [] = es
extend displays es (call ∷ calls) = extend displays (answered displays call es) calls

-- the receives of all published messages on live channels, by rising channel
abbrev pub receives : List Effect → List Call
receives es =
    flat_map
    (λ c. if live (past_of es) c then replicate (published es c - received (past_of es) c) (Receive c) else [])
    (channels (opened (past_of es)))

-- the effects after these receives
abbrev pub received_all : List ℕ → List Effect → List Effect
received_all displays es = extend displays es (receives es)

-- one round: it does what is chosen, then receives all published messages
abbrev pub round : Plan → List Effect → Candidate → List Effect
round plan es c = received_all plan.displays (extend plan.displays es c.calls)

-- the start of the ordered run: it opens the channels
abbrev pub begun : Plan → List Effect
begun plan = extend plan.displays [] (opens plan.channels)

-- the effects that rounds of the ordered run can have: each round does what is chosen after the previous ones
pub data Rounds (plan : Plan) : List Effect → Type 0 where
  start : Rounds plan (begun plan)
  next : {es : List Effect} {c : Candidate} → Rounds plan es → chosen plan es ≡ Some c → Rounds plan (round plan es c)

-- the ordered run: some rounds, after which nothing is chosen
abbrev pub Ordered : Plan → List Effect → Type 0
Ordered plan es = Rounds plan es × (chosen plan es ≡ None)

-- no more rounds if nothing is chosen, otherwise one round and then more
abbrev pub rounds_with : Plan → (List Effect → List Effect) → List Effect → Option Candidate → List Effect
rounds_with plan more es None = es
rounds_with plan more es (Some c) = more (round plan es c)

-- at most n rounds
abbrev pub rounds : ℕ → Plan → List Effect → List Effect
rounds zero plan es = es
rounds (suc n) plan es = rounds_with plan (λ later. rounds n plan later) es (chosen plan es)

-- the ordered run, if it has at most n rounds
abbrev pub ordered : ℕ → Plan → List Effect
ordered n plan = rounds n plan (begun plan)
